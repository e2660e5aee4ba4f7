-- Of two lists of items that begin the same bytes and break no rule, one continues the other.
use Rattle.std.proofs.Common.{◌≡◌, ℕ, ◌+◌, List, [], ◌∷◌, ◌++◌, refl, sym, ap, ◌∙◌, subst, inl, inr, ⊎_elim}
use Rattle.std.specs.Prelude.{◌⊎◌}
use Rattle.std.proofs.lemmas.List.{append_assoc, append-nil, append_cancel_left}
use Rattle.jpg_spec.specs.Lists.{chunks}
use Rattle.jpg_spec.specs.Scan.{Blocks, Scan, SpellsInterval, SpellsIntervals, ScanMeans}
use Rattle.jpg_spec.specs.Markers.{soi}
use Rattle.jpg_spec.specs.Items.{Item, segment, scan, segments_of, SpellsItem, SpellsIntervalsText}
use Rattle.jpg_spec.specs.FileMeaning.{scan_after, Leads}
use Rattle.jpg_spec.specs.FirstFault.{AfterItems, HoldsAll}
use Rattle.jpg_spec.specs.declared.frame.Place.{Place}
use Rattle.jpg_spec.specs.declared.frame.Limits.{Limits}
use Rattle.jpg_spec.proofs.Segments.MarkersOnce.{segment_once}
use Rattle.jpg_spec.proofs.Headers.HeadersOnce.{SpellsItems, after_front}
use Rattle.jpg_spec.specs.UnfinishedFile.{Completes}
use Rattle.jpg_spec.proofs.Files.ScansOnce.{At, DataPlace, TwoPlaces}
use Rattle.jpg_spec.proofs.Files.ScansExclude.{ended_once}
use Rattle.jpg_spec.proofs.Segments.TablesInForce.{scan_sound}
use Rattle.jpg_spec.proofs.Files.BlocksOnce.{blocks_once}

-- A COMPLETE SCAN is complete intervals, and then a last one

pub record EndsAt (s : Scan) (before after : Blocks) (all : List (List Place)) (intervals : List (List ℕ)) : Type 0 where
  pub done : List (List ℕ)
  pub last : List ℕ
  pub whole : List (List Place)
  pub places : List Place
  pub are : intervals ≡ done ++ last ∷ []
  pub cut : all ≡ whole ++ places ∷ []
  pub spelled : SpellsIntervals s before after whole done
  pub here : SpellsInterval s before after places last

pub ends_at : (s : Scan) (before after : Blocks) (all : List (List Place)) (turn : ℕ) (intervals : List (List ℕ)) (text : List ℕ) → SpellsIntervalsText turn intervals text → SpellsIntervals s before after all intervals
    → EndsAt s before after all intervals
ends_at s before after all turn [] text t k = absurd t
ends_at s before after [] turn (c ∷ intervals) text t k = absurd k
ends_at s before after (p ∷ []) turn (c ∷ []) text t k = record { done = []; last = c; whole = []; places = p; are = refl; cut = refl; spelled = tt; here = k.0 }
ends_at s before after (p ∷ q ∷ all) turn (c ∷ []) text t k = absurd k.1
ends_at s before after (p ∷ all) turn (c ∷ d ∷ intervals) text t k =
    let h = ends_at s before after all (turn + 1) (d ∷ intervals) t.2 t.6 k.1 in
    record {
      done = c ∷ h.done;
      last = h.last;
      whole = p ∷ h.whole;
      places = h.places;
      are = ap (λ l. c ∷ l) h.are;
      cut = ap (λ l. p ∷ l) h.cut;
      spelled = (k.0, h.spelled);
      here = h.here;
    }

holds_whole : (s : Scan) (before after : Blocks) (whole due : List (List Place)) (done : List (List ℕ)) → SpellsIntervals s before after whole done → HoldsAll s before (whole ++ due) done due
holds_whole s before after [] due [] k = refl
holds_whole s before after [] due (c ∷ done) k = absurd k
holds_whole s before after (p ∷ whole) due [] k = absurd k
holds_whole s before after (p ∷ whole) due (c ∷ done) k = (_, (k.0.0, k.0.1, k.0.2), holds_whole s before after whole due done k.1)

module _ (s : Scan) (before after : Blocks) (all : List (List Place)) (intervals : List (List ℕ)) (h : EndsAt s before after all intervals) where
  pub end_holds : HoldsAll s before all h.done (h.places ∷ [])
  end_holds = subst (λ q. HoldsAll s before q h.done (h.places ∷ [])) (sym h.cut) (holds_whole s before after h.whole (h.places ∷ []) h.done h.spelled)

  pub end_completes : Completes s before h.places h.last
  end_completes = (_, ((h.here).0, (h.here).1, (h.here).2))

  abbrev pub end_place : List ℕ → DataPlace
  end_place behind = record { done = h.done; coded = h.last; places = h.places; later = []; behind = behind }

  pub at_end : (text behind : List ℕ) → SpellsIntervalsText 0 intervals text → At s before all 0 (end_place behind) text
  at_end text behind t = record { spelled = subst (λ l. SpellsIntervalsText 0 l text) h.are t; holds = end_holds }

-- ONE ITEM

same_segments : (c d : ℕ) (xs ys : List ℕ) → c ≡ d → xs ≡ ys → segment c xs ≡ segment d ys
same_segments c d xs ys e f = cc

same_scans : (xs ys : List ℕ) (m n : List (List ℕ)) → xs ≡ ys → m ≡ n → scan xs m ≡ scan ys n
same_scans xs ys m n e f = cc

-- AN ITEM after these, at the beginning of some bytes
pub record ItemAt (limits : Limits) (items : List Item) (x : Item) (stream rest : List ℕ) : Type 0 where
  pub here : List ℕ
  pub blocks : Blocks
  pub cut : stream ≡ here ++ rest
  pub spelled : SpellsItem x here
  pub leads : Leads limits (x ∷ items) blocks

-- the data of a scan after these items, with this header
record DataAt (limits : Limits) (items : List Item) (contents : List ℕ) (intervals : List (List ℕ)) (stream rest : List ℕ) : Type 0 where
  text : List ℕ
  old : Blocks
  blocks : Blocks
  cut : stream ≡ text ++ rest
  spelled : SpellsIntervalsText 0 intervals text
  leads : Leads limits items old
  means : ScanMeans (scan_after limits (segments_of items) contents) intervals old blocks

-- scans of one header
scans_once : (limits : Limits) (items : List Item) (contents : List ℕ) (m n : List (List ℕ)) (stream u v : List ℕ) → DataAt limits items contents m stream u → DataAt limits items contents n stream v
    → (m ≡ n) × (u ≡ v)
scans_once limits items contents m n stream u v k l =
    let s = scan_after limits (segments_of items) contents in
    let all = chunks s.interval s.places in
    let means : ScanMeans s n k.old l.blocks = subst (λ o. ScanMeans s n o l.blocks) (sym (blocks_once limits items k.old l.old k.leads l.leads)) l.means in
    let h = ends_at s k.old k.blocks all 0 m k.text k.spelled (k.means).spelled in
    let j = ends_at s k.old l.blocks all 0 n l.text l.spelled means.spelled in
    let p = end_place s k.old k.blocks all m h u in
    let q = end_place s k.old l.blocks all n j v in
    let w : TwoPlaces s k.old all 0 p q =
    record { text = k.text; other = l.text; first = at_end s k.old k.blocks all m h k.text u k.spelled; second = at_end s k.old l.blocks all n j l.text v l.spelled; same = sym k.cut ∙ l.cut } in
    let one = ended_once s k.old all p q (scan_sound limits (segments_of items) contents) w refl refl (end_completes s k.old k.blocks all m h) (end_completes s k.old l.blocks all n j) in
    (h.are ∙ ap (λ (r : DataPlace). r.done ++ r.coded ∷ []) one ∙ sym j.are, ap (λ (r : DataPlace). r.behind) one)

-- bytes begin with at most one item, after these items
pub item_once : (limits : Limits) (x y : Item) (items : List Item) (stream u v : List ℕ) → ItemAt limits items x stream u → ItemAt limits items y stream v → (x ≡ y) × (u ≡ v)
item_once limits (segment c xs) (segment d ys) items stream u v k l =
    let h = segment_once c d xs ys k.here l.here u v (k.spelled).0 (l.spelled).0 (sym k.cut ∙ l.cut) in (same_segments c d xs ys h.0 h.1, h.3)
item_once limits (segment c xs) (scan ys n) items stream u v k l =
    let t = l.spelled in
    absurd ((k.spelled).2 (segment_once c 0xda xs ys k.here t.0 u (t.1 ++ v) (k.spelled).0 t.3 (sym k.cut ∙ l.cut ∙ ap (λ z. z ++ v) t.2 ∙ append_assoc t.0 t.1 v)).0)
item_once limits (scan xs m) (segment d ys) items stream u v k l =
    let s = k.spelled in
    absurd ((l.spelled).2 (sym (segment_once 0xda d xs ys s.0 l.here (s.1 ++ u) v s.3 (l.spelled).0 (sym (append_assoc s.0 s.1 u) ∙ ap (λ z. z ++ u) (sym s.2) ∙ sym k.cut ∙ l.cut)).0))
item_once limits (scan xs m) (scan ys n) items stream u v k l =
    let s = k.spelled in
    let t = l.spelled in
    let h = segment_once 0xda 0xda xs ys s.0 t.0 (s.1 ++ u) (t.1 ++ v) s.3 t.3
    (sym (append_assoc s.0 s.1 u) ∙ ap (λ z. z ++ u) (sym s.2) ∙ sym k.cut ∙ l.cut ∙ ap (λ z. z ++ v) t.2 ∙ append_assoc t.0 t.1 v) in
    let a = k.leads in
    let b = l.leads in
    let means : ScanMeans (scan_after limits (segments_of items) xs) n b.0 l.blocks = subst (λ c. ScanMeans (scan_after limits (segments_of items) c) n b.0 l.blocks) (sym h.1) b.4 in
    let r = scans_once limits items xs m n (s.1 ++ u) u v
    (record { text = s.1; old = a.0; blocks = k.blocks; cut = refl; spelled = s.4; leads = a.3; means = a.4 })
    (record { text = t.1; old = b.0; blocks = l.blocks; cut = h.3; spelled = t.4; leads = b.3; means = means }) in
    (same_scans xs ys m n h.1 r.0, r.1)

-- LISTS OF ITEMS, the newest first

-- at the beginning of some bytes, after SOI
record ItemsAt (limits : Limits) (items : List Item) (stream rest : List ℕ) : Type 0 where
  text : List ℕ
  blocks : Blocks
  cut : stream ≡ text ++ rest
  spelled : SpellsItems items text
  leads : Leads limits items blocks

-- The items' (with v after them) continue the items (with u after them).
pub record ItemsGoOn (items : List Item) (u : List ℕ) (items' : List Item) (v : List ℕ) : Type 0 where
  pub more : List Item
  pub text : List ℕ
  pub joined : items' ≡ more ++ items
  pub spelled : SpellsItems more text
  pub behind : u ≡ text ++ v

-- the oldest of some items, which is spelled first
pub record Oldest (x : Item) (xs : List Item) (text : List ℕ) : Type 0 where
  pub later : List Item
  pub first : Item
  pub here : List ℕ
  pub rest : List ℕ
  pub joined : x ∷ xs ≡ later ++ first ∷ []
  pub cut : text ≡ here ++ rest
  pub spelled : SpellsItem first here
  pub others : SpellsItems later rest

pub oldest_item : (x : Item) (xs : List Item) (text : List ℕ) → SpellsItems (x ∷ xs) text → Oldest x xs text
oldest_item x [] text s = record {
  later = [];
  first = x;
  here = s.1;
  rest = [];
  joined = refl;
  cut = s.2 ∙ ap (λ l. l ++ s.1) s.3 ∙ sym (append-nil s.1);
  spelled = s.4;
  others = refl;
}
oldest_item x (y ∷ xs) text s =
    let h = oldest_item y xs s.0 s.3 in
    record {
      later = x ∷ h.later;
      first = h.first;
      here = h.here;
      rest = h.rest ++ s.1;
      joined = ap (λ l. x ∷ l) h.joined;
      cut = s.2 ∙ ap (λ l. l ++ s.1) h.cut ∙ append_assoc h.here h.rest s.1;
      spelled = h.spelled;
      others = (h.rest, s.1, refl, h.others, s.4);
    }

-- the items before others lead to some blocks
pub leads_before : (limits : Limits) (more items : List Item) (blocks : Blocks) → Leads limits (more ++ items) blocks → (old : Blocks) × Leads limits items old
leads_before limits [] items blocks l = (blocks, l)
leads_before limits (segment code contents ∷ more) items blocks l = leads_before limits more items blocks l.2
leads_before limits (scan contents intervals ∷ more) items blocks l = leads_before limits more items l.0 l.3

items_once : (limits : Limits) (items items' : List Item) (stream u v : List ℕ) → ItemsAt limits items stream u → ItemsAt limits items' stream v → ItemsGoOn items u items' v ⊎ ItemsGoOn items' v items u
items_once limits items [] stream u v k l =
    inr (record { more = items; text = k.text; joined = sym (append-nil items); spelled = k.spelled; behind = ap (λ z. z ++ v) (sym l.spelled) ∙ sym l.cut ∙ k.cut })
items_once limits items (y ∷ ys) stream u v k l =
    ⊎_elim
    (λ (g : ItemsGoOn items u ys rest). inl (record {
      more = y ∷ g.more;
      text = g.text ++ t.1;
      joined = ap (λ z. y ∷ z) g.joined;
      spelled = (g.text, t.1, refl, g.spelled, t.4);
      behind = g.behind ∙ sym (append_assoc g.text t.1 v);
    }))
    (λ (g : ItemsGoOn ys rest items u). further g.more g.text g.joined g.spelled g.behind)
    (items_once limits items ys stream u rest k before)
  where
    t : SpellsItems (y ∷ ys) l.text
    t = l.spelled

    rest : List ℕ
    rest = t.1 ++ v

    before : ItemsAt limits ys stream rest
    before =
        let led = leads_before limits (y ∷ []) ys l.blocks l.leads in
        record { text = t.0; blocks = led.0; cut = l.cut ∙ ap (λ z. z ++ v) t.2 ∙ append_assoc t.0 t.1 v; spelled = t.3; leads = led.1 }

    further : (more : List Item) (text : List ℕ) → items ≡ more ++ ys → SpellsItems more text → rest ≡ text ++ u → ItemsGoOn items u (y ∷ ys) v ⊎ ItemsGoOn (y ∷ ys) v items u
    further [] text same m behind =
        inl (record {
          more = y ∷ [];
          text = t.1;
          joined = ap (λ z. y ∷ z) (sym same);
          spelled = ([], t.1, refl, refl, t.4);
          behind = sym (ap (λ z. z ++ u) m) ∙ sym behind;
        })
    further (x ∷ more) text same m behind =
        let o = oldest_item x more text m in
        let split : items ≡ o.later ++ (o.first ∷ ys) = same ∙ ap (λ z. z ++ ys) o.joined ∙ append_assoc o.later (o.first ∷ []) ys in
        let led = leads_before limits o.later (o.first ∷ ys) k.blocks (subst (λ z. Leads limits z k.blocks) split k.leads) in
        let h = item_once limits o.first y ys rest (o.rest ++ u) v
        (record { here = o.here; blocks = led.0; cut = behind ∙ ap (λ z. z ++ u) o.cut ∙ append_assoc o.here o.rest u; spelled = o.spelled; leads = led.1 })
        (record { here = t.1; blocks = l.blocks; cut = refl; spelled = t.4; leads = l.leads }) in
        inr (record { more = o.later; text = o.rest; joined = split ∙ ap (λ z. o.later ++ (z ∷ ys)) h.0; spelled = o.others; behind = sym h.1 })

-- WHAT FOLLOWS ITEMS, of two lists of them that begin the same bytes

-- After the items, with u after them, the items' have a further one.
pub record HasNext (limits : Limits) (items : List Item) (u : List ℕ) (items' : List Item) (v : List ℕ) : Type 0 where
  pub first : Item
  pub later : List Item
  pub here : List ℕ
  pub text : List ℕ
  pub blocks : Blocks
  pub joined : items' ≡ later ++ first ∷ items
  pub spelled : SpellsItem first here
  pub others : SpellsItems later text
  pub behind : u ≡ here ++ (text ++ v)
  pub leads : Leads limits (first ∷ items) blocks

abbrev pub Meets : Limits → List Item → List ℕ → List Item → List ℕ → Type 0
Meets limits items u items' v = ((items ≡ items') × (u ≡ v)) ⊎ (HasNext limits items u items' v ⊎ HasNext limits items' v items u)

next_of : (limits : Limits) (items items' : List Item) (u v : List ℕ) (blocks : Blocks) → Leads limits items' blocks → ItemsGoOn items u items' v
    → ((items ≡ items') × (u ≡ v)) ⊎ HasNext limits items u items' v
next_of limits items items' u v blocks l g = by g.more g.joined g.text g.spelled g.behind
  where
    by : (more : List Item) → items' ≡ more ++ items → (text : List ℕ) → SpellsItems more text → u ≡ text ++ v → ((items ≡ items') × (u ≡ v)) ⊎ HasNext limits items u items' v
    by [] same text m behind = inl (sym same, behind ∙ ap (λ k. k ++ v) m)
    by (x ∷ more) same text m behind =
        let o = oldest_item x more text m in
        let split : items' ≡ o.later ++ o.first ∷ items = same ∙ ap (λ k. k ++ items) o.joined ∙ append_assoc o.later (o.first ∷ []) items in
        let led = leads_before limits o.later (o.first ∷ items) blocks (subst (λ k. Leads limits k blocks) split l) in
        inr (record {
          first = o.first;
          later = o.later;
          here = o.here;
          text = o.rest;
          blocks = led.0;
          joined = split;
          spelled = o.spelled;
          others = o.others;
          behind = behind ∙ ap (λ k. k ++ v) o.cut ∙ append_assoc o.here o.rest v;
          leads = led.1;
        })

-- THE LAW
pub meet : (limits : Limits) (stream : List ℕ) (items items' : List Item) (u v : List ℕ) → AfterItems limits stream items u → AfterItems limits stream items' v → Meets limits items u items' v
meet limits stream items items' u v a b =
    let h = after_front items a.front a.spelled in
    let k = after_front items' b.front b.spelled in
    let from : h.0 ++ u ≡ k.0 ++ v = append_cancel_left soi (h.0 ++ u) (k.0 ++ v)
    (sym (append_assoc soi h.0 u) ∙ ap (λ z. z ++ u) (sym h.1) ∙ sym a.cut ∙ b.cut ∙ ap (λ z. z ++ v) k.1 ∙ append_assoc soi k.0 v) in
    ⊎_elim
    (λ (g : ItemsGoOn items u items' v). ⊎_elim
    (λ (z : (items ≡ items') × (u ≡ v)). inl z) (λ (z : HasNext limits items u items' v). inr (inl z)) (next_of limits items items' u v b.blocks b.leads g))
    (λ (g : ItemsGoOn items' v items u). ⊎_elim
    (λ (z : (items' ≡ items) × (v ≡ u)). inl (sym z.0, sym z.1)) (λ (z : HasNext limits items' v items u). inr (inr z)) (next_of limits items' items v u a.blocks a.leads g))
    (items_once limits items items' (h.0 ++ u) u v
    (record { text = h.0; blocks = a.blocks; cut = refl; spelled = h.2; leads = a.leads })
    (record { text = k.0; blocks = b.blocks; cut = from; spelled = k.2; leads = b.leads }))
