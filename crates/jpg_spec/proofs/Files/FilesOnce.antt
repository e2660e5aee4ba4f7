-- Bytes of a file have at most one result: after items, or inside a scan's data.
use Rattle.std.proofs.Common.{◌≡◌, ℕ, ◌+◌, ◌<◌, true, false, List, [], ◌∷◌, ◌++◌, length, refl, sym, ap, ◌∙◌, subst, arith, inl, inr}
use Rattle.std.specs.Prelude.{◌⊎◌, replicate}
use Rattle.std.specs.Int.{to_be_bytes, w16}
use Rattle.std.proofs.lemmas.List.{append_assoc, append-nil, append_cancel_left}
use Rattle.jpg_spec.specs.Lists.{chunks}
use Rattle.jpg_spec.specs.Segments.{two_bytes}
use Rattle.jpg_spec.specs.Scan.{Blocks, Scan, ScanMeans}
use Rattle.jpg_spec.specs.Markers.{SpellsMarker, SpellsSegment, is_frame_code}
use Rattle.jpg_spec.specs.Items.{Item, segment, scan, segments_of, SpellsItem, SpellsIntervalsText, ends_in_scan}
use Rattle.jpg_spec.specs.Sound.{IsSound}
use Rattle.jpg_spec.specs.FileMeaning.{scan_after, Leads}
use Rattle.jpg_spec.specs.FirstFault.{AfterItems, InsideScan, ScanReveals}
use Rattle.jpg_spec.specs.declared.fault.Fault.{Fault}
use Rattle.jpg_spec.specs.declared.frame.Limits.{Limits}
use Rattle.jpg_spec.proofs.Segments.MarkersOnce.{segment_once}
use Rattle.jpg_spec.proofs.Headers.HeadersOnce.{SpellsItems}
use Rattle.jpg_spec.specs.UnfinishedFile.{Completes, StandsInside}
use Rattle.jpg_spec.specs.ScanReading.{LeadingMarker}
use Rattle.jpg_spec.proofs.Files.ScansOnce.{At, DataPlace, TwoPlaces, swapped}
use Rattle.jpg_spec.proofs.Files.ScansExclude.{Closes, IsCalm, closed_not_calm, ended_not_standing, closed_once}
use Rattle.jpg_spec.proofs.Segments.TablesInForce.{scan_sound}
use Rattle.jpg_spec.proofs.Files.BlocksOnce.{blocks_once}
use Rattle.jpg_spec.proofs.Files.ItemsOnce.{EndsAt, HasNext, ItemAt, Meets, at_end, end_completes, ends_at, meet, oldest_item}
use Rattle.jpg_spec.proofs.Files.TailsOnce.{Ends, Goes, HasHead, ends_not_head, goes_not_head, ends_not_goes, ends_once}
use Rattle.jpg_spec.proofs.Basics.Common.{clash}

-- HEADS: the marker segments that items begin with

item_head : (limits : Limits) (items : List Item) (first : Item) (here rest : List ℕ) (blocks : Blocks) → SpellsItem first here → Leads limits (first ∷ items) blocks → HasHead limits (segments_of items) (here ++ rest)
item_head limits items (segment c xs) here rest blocks s l =
    record { code = c; contents = xs; head = here; rest = rest; cut = refl; spelled = s.0; allowed = l.0; rule = l.1; other = s.1 }
item_head limits items (scan xs m) here rest blocks s l = record {
  code = 0xda;
  contents = xs;
  head = s.0;
  rest = s.1 ++ rest;
  cut = ap (λ k. k ++ rest) s.2 ∙ append_assoc s.0 s.1 rest;
  spelled = s.3;
  allowed = l.1;
  rule = l.2;
  other = λ e. (let z : ⊥ = omega (arith, e) in z);
}

pub head_at : (limits : Limits) (items : List Item) (u v : List ℕ) → u ≡ v → HasHead limits (segments_of items) v → HasHead limits (segments_of items) u
head_at limits items u v e h =
    record { code = h.code; contents = h.contents; head = h.head; rest = h.rest; cut = e ∙ h.cut; spelled = h.spelled; allowed = h.allowed; rule = h.rule; other = h.other }

pub next_head : (limits : Limits) (items items' : List Item) (u v : List ℕ) → HasNext limits items u items' v → HasHead limits (segments_of items) u
next_head limits items items' u v g = head_at limits items u (g.here ++ (g.text ++ v)) g.behind (item_head limits items g.first g.here (g.text ++ v) g.blocks g.spelled g.leads)

-- WHAT FOLLOWS A COMPLETE SCAN

pub segment_marker : (code : ℕ) (contents bytes x : List ℕ) → SpellsSegment code contents bytes → LeadingMarker (bytes ++ x)
segment_marker code contents bytes x s = record {
  code = code;
  marker = s.0;
  rest = (to_be_bytes w16 (length contents + 2) ++ contents) ++ x;
  spelled = s.1;
  cut = ap (λ l. l ++ x) (s.3 ∙ append_assoc s.0 (to_be_bytes w16 (length contents + 2)) contents) ∙ append_assoc s.0 (to_be_bytes w16 (length contents + 2) ++ contents) x;
}

last_marker : (code : ℕ) (tail : List ℕ) → SpellsMarker code tail → LeadingMarker tail
last_marker code tail m = record { code = code; marker = tail; rest = []; spelled = m; cut = sym (append-nil tail) }

pub begins_more : (a x : List ℕ) → LeadingMarker a → LeadingMarker (a ++ x)
begins_more a x b = record { code = b.code; marker = b.marker; rest = b.rest ++ x; spelled = b.spelled; cut = ap (λ l. l ++ x) b.cut ∙ append_assoc b.marker b.rest x }

item_marker : (first : Item) (here x : List ℕ) → SpellsItem first here → LeadingMarker (here ++ x)
item_marker (segment c xs) here x s = segment_marker c xs here x s.0
item_marker (scan xs m) here x s =
    let b = begins_more (s.0 ++ s.1) x (begins_more s.0 s.1 (subst (λ l. LeadingMarker l) (append-nil s.0) (segment_marker 0xda xs s.0 [] s.3))) in
    subst (λ l. LeadingMarker (l ++ x)) (sym s.2) b

items_marker : (x : Item) (xs : List Item) (text v : List ℕ) → SpellsItems (x ∷ xs) text → LeadingMarker (text ++ v)
items_marker x xs text v s =
    let o = oldest_item x xs text s in
    subst (λ l. LeadingMarker l) (sym (ap (λ l. l ++ v) o.cut ∙ append_assoc o.here o.rest v)) (item_marker o.first o.here (o.rest ++ v) o.spelled)

ends_marker : (limits : Limits) (items : List Item) (tail : List ℕ) → Ends limits items tail → ends_in_scan items ≡ true → LeadingMarker tail
ends_marker limits items tail (inl (fault, inl k)) e = absurd (clash (ends_in_scan items) e k.1)
ends_marker limits items tail (inl (fault, inr (inl (inl k)))) e = last_marker k.0 tail k.1
ends_marker limits items tail (inl (fault, inr (inl (inr (inl k))))) e = let q = k.1 in record { code = q.0; marker = q.1; rest = q.2 ∷ q.3 ∷ []; spelled = q.4.0; cut = q.5 }
ends_marker limits items tail (inl (fault, inr (inl (inr (inr k))))) e = subst (λ l. LeadingMarker l) (append-nil tail) (segment_marker k.0 k.1 tail [] k.2)
ends_marker limits items tail (inl (fault, inr (inr k))) e = last_marker 0xd9 tail k.1
ends_marker limits items tail (inr k) e = last_marker 0xd9 tail k.0

abbrev pub IsQuiet : List ℕ → Type 0
IsQuiet u = ((fill : ℕ) × (u ≡ replicate fill 255)) ⊎ LeadingMarker u

goes_quiet : (items : List Item) (tail : List ℕ) → Goes items tail → IsQuiet tail
goes_quiet items tail (inl k) = inr (last_marker k.0 tail k.1.0)
goes_quiet items tail (inr (inl k)) = inl k
goes_quiet items tail (inr (inr k)) = let q = by k.3 in inr (record { code = k.0; marker = k.1; rest = q.0; spelled = q.1; cut = q.2 })
  where
    by : ((tail ≡ k.1) × (is_frame_code k.0 ≡ false)) ⊎ (((high : ℕ) × (tail ≡ k.1 ++ high ∷ []) × (high < 256))
        ⊎ ((high : ℕ) × (low : ℕ) × (contents : List ℕ) × (tail ≡ k.1 ++ high ∷ low ∷ contents) × (high < 256) × (low < 256) × (length contents + 2 < two_bytes high low)))
        → (rest : List ℕ) × SpellsMarker k.0 k.1 × (tail ≡ k.1 ++ rest)
    by (inl h) = ([], k.2.0, h.0 ∙ sym (append-nil k.1))
    by (inr (inl h)) = (h.0 ∷ [], k.2.0, h.1)
    by (inr (inr h)) = (h.0 ∷ h.1 ∷ h.2, k.2.0, h.3)

abbrev pub scan_in : Limits → List Item → List ℕ → Scan
scan_in limits items contents = scan_after limits (segments_of items) contents

-- The further item is this scan, complete.
pub record NextScan (limits : Limits) (items : List Item) (contents : List ℕ) (blocks : Blocks) (stream : List ℕ) (first : Item) (v : List ℕ) : Type 0 where
  pub intervals : List (List ℕ)
  pub is_scan : first ≡ scan contents intervals
  pub text : List ℕ
  pub cut : stream ≡ text ++ v
  pub spelled : SpellsIntervalsText 0 intervals text
  pub after : Blocks
  pub end : (let s = scan_in limits items contents in EndsAt s blocks after (chunks s.interval s.places) intervals)

next_scan : (limits : Limits) (items : List Item) (contents : List ℕ) (blocks : Blocks) (head stream : List ℕ) (first : Item) (v : List ℕ)
    → SpellsSegment 0xda contents head → Leads limits items blocks → ItemAt limits items first (head ++ stream) v → NextScan limits items contents blocks stream first v
next_scan limits items contents blocks head stream (segment c xs) v s l k =
    absurd ((k.spelled).2 (sym (segment_once 0xda c contents xs head k.here stream v s (k.spelled).0 k.cut).0))
next_scan limits items contents blocks head stream (scan xs m) v s l k =
    let sc = scan_in limits items contents in
    let t = k.spelled in
    let b = k.leads in
    let h = segment_once 0xda 0xda contents xs head t.0 stream (t.1 ++ v) s t.3 (k.cut ∙ ap (λ z. z ++ v) t.2 ∙ append_assoc t.0 t.1 v) in
    let means1 : ScanMeans sc m b.0 k.blocks = subst (λ c. ScanMeans (scan_in limits items c) m b.0 k.blocks) (sym h.1) b.4 in
    let means : ScanMeans sc m blocks k.blocks = subst (λ o. ScanMeans sc m o k.blocks) (blocks_once limits items b.0 blocks b.3 l) means1 in
    record {
      intervals = m;
      is_scan = ap (λ c. scan c m) (sym h.1);
      text = t.1;
      cut = h.3;
      spelled = t.4;
      after = k.blocks;
      end = ends_at sc blocks k.blocks (chunks sc.interval sc.places) 0 m t.1 t.4 means.spelled;
    }

-- its end, as a place in its data
abbrev pub next_end : {limits : Limits} {items : List Item} {contents : List ℕ} {blocks : Blocks} {stream : List ℕ} {first : Item} {v : List ℕ} → NextScan limits items contents blocks stream first v → DataPlace
next_end {v = v} n = record { done = (n.end).done; coded = (n.end).last; places = (n.end).places; later = []; behind = v }

-- after the scan that is the further item
next_quiet : (items later : List Item) (text v : List ℕ) → SpellsItems later text → (later ≡ [] → IsQuiet v) → IsQuiet (text ++ v)
next_quiet items [] text v s quiet = subst (λ l. IsQuiet (l ++ v)) (sym s) (quiet refl)
next_quiet items (x ∷ later) text v s quiet = inr (items_marker x later text v s)

pub next_marker : (items later : List Item) (text v : List ℕ) → SpellsItems later text → (later ≡ [] → LeadingMarker v) → LeadingMarker (text ++ v)
next_marker items [] text v s quiet = subst (λ l. LeadingMarker (l ++ v)) (sym s) (quiet refl)
next_marker items (x ∷ later) text v s quiet = items_marker x later text v s

pub scan_last : (first : Item) (items items' later : List Item) (contents : List ℕ) (intervals : List (List ℕ)) → first ≡ scan contents intervals → items' ≡ later ++ first ∷ items → later ≡ [] → ends_in_scan items' ≡ true
scan_last first items items' later contents intervals e f g = ap ends_in_scan (f ∙ ap (λ l. l ++ first ∷ items) g ∙ ap (λ x. x ∷ items) e)

-- WITH MORE BYTES behind

pub after_more : (limits : Limits) (bytes x stream : List ℕ) (items : List Item) (tail : List ℕ) → bytes ++ x ≡ stream → AfterItems limits bytes items tail → AfterItems limits stream items (tail ++ x)
after_more limits bytes x stream items tail e w =
    record { front = w.front; blocks = w.blocks; cut = sym e ∙ ap (λ l. l ++ x) w.cut ∙ append_assoc w.front tail x; spelled = w.spelled; leads = w.leads }

abbrev pub inside_more : (limits : Limits) (bytes x stream tail : List ℕ) → bytes ++ x ≡ stream → InsideScan limits bytes tail → InsideScan limits stream (tail ++ x)
inside_more limits bytes x stream tail e i = record {
  items = i.items;
  blocks = i.blocks;
  contents = i.contents;
  done = i.done;
  coded = i.coded;
  places = i.places;
  later = i.later;
  front = i.front;
  head = i.head;
  text = i.text;
  cut = sym e ∙ ap (λ l. l ++ x) i.cut ∙ append_assoc (i.front ++ i.head ++ i.text) tail x;
  spelled = i.spelled;
  header = i.header;
  intervals = i.intervals;
  leads = i.leads;
  allowed = i.allowed;
  due = i.due;
}

-- A PLACE in a scan's data, with the items before the scan

abbrev pub AtIn : Limits → List Item → List ℕ → Blocks → DataPlace → List ℕ → Type 0
AtIn limits items contents blocks p text = (let s = scan_in limits items contents in At s blocks (chunks s.interval s.places) 0 p text)

module _ (limits : Limits) (stream tail : List ℕ) (i : InsideScan limits stream tail) where
  abbrev pub place_in : DataPlace
  place_in = record { done = i.done; coded = i.coded; places = i.places; later = i.later; behind = tail }

  abbrev pub its_scan : Scan
  its_scan = scan_in limits i.items i.contents

  pub its_sound : IsSound (its_scan.coding)
  its_sound = scan_sound limits (segments_of i.items) i.contents

  pub inside_at : AtIn limits i.items i.contents i.blocks place_in i.text
  inside_at = record { spelled = i.intervals; holds = i.due }

  -- the items before the scan, and its header
  pub inside_after : AfterItems limits stream i.items (i.head ++ (i.text ++ tail))
  inside_after = record {
    front = i.front;
    blocks = i.blocks;
    cut = i.cut ∙ append_assoc (i.front ++ i.head) i.text tail ∙ append_assoc i.front i.head (i.text ++ tail);
    spelled = i.spelled;
    leads = i.leads;
  }

  pub inside_head : (rest : List ℕ) → HasHead limits (segments_of i.items) (i.head ++ rest)
  inside_head rest = record {
    code = 0xda;
    contents = i.contents;
    head = i.head;
    rest = rest;
    cut = refl;
    spelled = i.header;
    allowed = i.allowed.0;
    rule = i.allowed.1;
    other = λ e. (let z : ⊥ = omega (arith, e) in z);
  }

  pub inside_marker : (rest : List ℕ) → LeadingMarker (i.head ++ rest)
  inside_marker rest = segment_marker 0xda i.contents i.head rest i.header

  -- what follows the items isn't a part of a further item
  pub goes_not_inside : (items : List Item) (u : List ℕ) → Goes items u → items ≡ i.items → u ≡ i.head ++ (i.text ++ tail) → ⊥
  goes_not_inside items u l e f = goes_not_head limits items u l (subst (λ z. HasHead limits (segments_of z) u) (sym e) (head_at limits i.items u (i.head ++ (i.text ++ tail)) f (inside_head (i.text ++ tail))))

  -- the next item is this scan
  pub next_in : (items : List Item) (v : List ℕ) → (g : HasNext limits i.items (i.head ++ (i.text ++ tail)) items v) → NextScan limits i.items i.contents i.blocks (i.text ++ tail) g.first (g.text ++ v)
  next_in items v g =
      next_scan limits i.items i.contents i.blocks i.head (i.text ++ tail) g.first (g.text ++ v) i.header i.leads
      (record { here = g.here; blocks = g.blocks; cut = g.behind; spelled = g.spelled; leads = g.leads })

  pub next_two : (first : Item) (v : List ℕ) → (n : NextScan limits i.items i.contents i.blocks (i.text ++ tail) first v) → TwoPlaces its_scan i.blocks (chunks its_scan.interval its_scan.places) 0 place_in (next_end n)
  next_two first v n = record {
    text = i.text;
    other = n.text;
    first = inside_at;
    second = at_end its_scan i.blocks n.after (chunks its_scan.interval its_scan.places) n.intervals n.end n.text v n.spelled;
    same = n.cut;
  }

  -- a place that closes isn't one of a scan that continues, with a marker or FF bytes after it
  closed_not_next : (fault : Fault) (shown x : List ℕ) (first : Item) (v : List ℕ) → tail ≡ shown ++ x → Closes its_scan i.blocks place_in fault shown
      → NextScan limits i.items i.contents i.blocks (i.text ++ tail) first v → IsQuiet v → ⊥
  closed_not_next fault shown x first v e c n q =
      closed_not_calm its_scan i.blocks (chunks its_scan.interval its_scan.places) place_in (next_end n) fault shown x its_sound e (next_two first v n) c (by q)
    where
      completes : Completes its_scan i.blocks (n.end).places (n.end).last
      completes = end_completes its_scan i.blocks n.after (chunks its_scan.interval its_scan.places) n.intervals n.end

      by : IsQuiet v → IsCalm its_scan i.blocks (next_end n)
      by (inl k) = inl (k, inr completes)
      by (inr k) = inr (completes, refl, k)

  -- nor is a faultless prefix
  pub filled_not_next : (fill : ℕ) (items : List Item) (v : List ℕ) → tail ≡ replicate fill 255 → (g : HasNext limits i.items (i.head ++ (i.text ++ tail)) items v) → LeadingMarker (g.text ++ v) → ⊥
  filled_not_next fill items v e g m =
      let n = next_in items v g in
      let all = chunks its_scan.interval its_scan.places in
      ended_not_standing its_scan i.blocks all (next_end n) place_in fill (swapped its_scan i.blocks all 0 place_in (next_end n) (next_two g.first (g.text ++ v) n)) refl m e

-- AFTER ITEMS and after items
pub ends_apart : (limits : Limits) (stream : List ℕ) (items items' : List Item) (tail x tail' : List ℕ) → AfterItems limits stream items (tail ++ x) → Ends limits items tail → AfterItems limits stream items' tail' → Goes items' tail' → ⊥
ends_apart limits stream items items' tail x tail' w k w' l = by (meet limits stream items items' (tail ++ x) tail' w w')
  where
    by : Meets limits items (tail ++ x) items' tail' → ⊥
    by (inl s) = ends_not_goes limits items tail x tail' k (subst (λ z. Goes z tail') (sym s.0) l) s.1
    by (inr (inl g)) = ends_not_head limits items tail x (tail ++ x) k (next_head limits items items' (tail ++ x) tail' g) refl
    by (inr (inr g)) = goes_not_head limits items' tail' l (next_head limits items' items tail' (tail ++ x) g)

-- what ends after items does so once
pub items_end_once : (limits : Limits) (stream : List ℕ) (items items' : List Item) (tail x tail' y : List ℕ) → AfterItems limits stream items (tail ++ x) → Ends limits items tail
    → AfterItems limits stream items' (tail' ++ y) → Ends limits items' tail' → (items ≡ items') × (tail ≡ tail') × (x ≡ y)
items_end_once limits stream items items' tail x tail' y w k w' l = by (meet limits stream items items' (tail ++ x) (tail' ++ y) w w')
  where
    by : Meets limits items (tail ++ x) items' (tail' ++ y) → (items ≡ items') × (tail ≡ tail') × (x ≡ y)
    by (inl s) =
        let same = ends_once limits items tail tail' x y k (subst (λ z. Ends limits z tail') (sym s.0) l) s.1 in
        (s.0, same, append_cancel_left tail x y (s.1 ∙ ap (λ z. z ++ y) (sym same)))
    by (inr (inl g)) = absurd (ends_not_head limits items tail x (tail ++ x) k (next_head limits items items' (tail ++ x) (tail' ++ y) g) refl)
    by (inr (inr g)) = absurd (ends_not_head limits items' tail' y (tail' ++ y) l (next_head limits items' items (tail' ++ y) (tail ++ x) g) refl)

-- AFTER ITEMS, and inside a scan

module _ (limits : Limits) (stream tail : List ℕ) (i : InsideScan limits stream tail) where
  abbrev stands : AfterItems limits stream i.items (i.head ++ (i.text ++ tail))
  stands = inside_after limits stream tail i

  -- what ends after items continues with no scan, and its items don't end inside one
  ends_meet_inside : (items : List Item) (part x : List ℕ) → AfterItems limits stream items (part ++ x) → Ends limits items part
      → (v : List ℕ) × (g : HasNext limits i.items (i.head ++ (i.text ++ tail)) items v) × LeadingMarker (g.text ++ v)
  ends_meet_inside items part x w k = by (meet limits stream items i.items (part ++ x) u w stands)
    where
      u : List ℕ
      u = i.head ++ (i.text ++ tail)

      by : Meets limits items (part ++ x) i.items u → (v : List ℕ) × (g : HasNext limits i.items u items v) × LeadingMarker (g.text ++ v)
      by (inl s) = absurd (ends_not_head limits items part x u k (subst (λ z. HasHead limits (segments_of z) u) (sym s.0) (inside_head limits stream tail i (i.text ++ tail))) s.1)
      by (inr (inl g)) = absurd (ends_not_head limits items part x (part ++ x) k (next_head limits items i.items (part ++ x) u g) refl)
      by (inr (inr g)) =
          let n = next_in limits stream tail i items (part ++ x) g in (
            part ++ x,
            g,
            next_marker items g.later g.text (part ++ x) g.others
                (λ z. begins_more part x (ends_marker limits items part k (scan_last g.first i.items items g.later i.contents n.intervals n.is_scan g.joined z))),
          )

  pub ends_not_inside_standing : (items : List Item) (part x : List ℕ) → AfterItems limits stream items (part ++ x) → Ends limits items part → StandsInside limits stream tail i → ⊥
  ends_not_inside_standing items part x w k st =
      let m = ends_meet_inside items part x w k in filled_not_next limits stream tail i st.0.0 items m.0 st.0.1 m.1 m.2

  pub ends_not_inside_closed : (items : List Item) (part x : List ℕ) (fault : Fault) (shown y : List ℕ) → tail ≡ shown ++ y → AfterItems limits stream items (part ++ x) → Ends limits items part
      → Closes (its_scan limits stream tail i) i.blocks (place_in limits stream tail i) fault shown → ⊥
  ends_not_inside_closed items part x fault shown y e w k c =
      let m = ends_meet_inside items part x w k in
      let g = m.1 in
      closed_not_next limits stream tail i fault shown y g.first (g.text ++ m.0) e c (next_in limits stream tail i items m.0 g) (inr m.2)

  pub inside_closed_not_going : (fault : Fault) (shown x : List ℕ) (items : List Item) (part : List ℕ) → tail ≡ shown ++ x → Closes (its_scan limits stream tail i) i.blocks (place_in limits stream tail i) fault shown
      → AfterItems limits stream items part → Goes items part → ⊥
  inside_closed_not_going fault shown x items part e c w l = by (meet limits stream i.items items (i.head ++ (i.text ++ tail)) part stands w)
    where
      by : Meets limits i.items (i.head ++ (i.text ++ tail)) items part → ⊥
      by (inl s) = goes_not_inside limits stream tail i items part l (sym s.0) (sym s.1)
      by (inr (inl g)) =
          closed_not_next limits stream tail i fault shown x g.first (g.text ++ part) e c (next_in limits stream tail i items part g)
          (next_quiet items g.later g.text part g.others (λ z. goes_quiet items part l))
      by (inr (inr g)) = goes_not_head limits items part l (next_head limits items i.items part (i.head ++ (i.text ++ tail)) g)

  -- INSIDE A SCAN, and inside a scan

  -- what holds inside another scan holds inside this one, if they have the same items before and the same header
  pub in_one : (behind : List ℕ) (j : InsideScan limits stream behind) (P : List Item → List ℕ → Blocks → Type 0) → i.items ≡ j.items → i.contents ≡ j.contents → P j.items j.contents j.blocks
      → P i.items i.contents i.blocks
  in_one behind j P e f p =
      let blocks = blocks_once limits i.items j.blocks i.blocks (subst (λ z. Leads limits z j.blocks) (sym e) j.leads) i.leads in
      subst (λ z. P i.items i.contents z) blocks (subst (λ z. P i.items z j.blocks) (sym f) (subst (λ z. P z j.contents j.blocks) (sym e) p))

  -- the headers are the same where the items are
  pub one_header : (behind : List ℕ) (j : InsideScan limits stream behind) (r r' : List ℕ) → i.head ++ r ≡ j.head ++ r' → (i.contents ≡ j.contents) × (r ≡ r')
  one_header behind j r r' e = let h = segment_once 0xda 0xda i.contents j.contents i.head j.head r r' i.header j.header e in (h.1, h.3)

  -- both are places in one scan's data, and what holds of the other holds there too
  pub two_inside : (behind : List ℕ) (j : InsideScan limits stream behind) (P : Scan → Blocks → Type 0) → i.items ≡ j.items → i.head ++ (i.text ++ tail) ≡ j.head ++ (j.text ++ behind)
      → P (its_scan limits stream behind j) j.blocks
      → (let s = its_scan limits stream tail i in TwoPlaces s i.blocks (chunks s.interval s.places) 0 (place_in limits stream tail i) (place_in limits stream behind j) × P s i.blocks)
  two_inside behind j P e f p =
      let h = one_header behind j (i.text ++ tail) (j.text ++ behind) f in
      let Q : List Item → List ℕ → Blocks → Type 0 = λ items contents blocks. AtIn limits items contents blocks (place_in limits stream behind j) j.text × P (scan_in limits items contents) blocks in
      let there : Q j.items j.contents j.blocks = (inside_at limits stream behind j, p) in
      let q = in_one behind j Q e h.0 there in
      (record { text = i.text; other = j.text; first = inside_at limits stream tail i; second = q.0; same = h.1 }, q.1)

  -- a place that closes has no scan after it
  closed_meets_next : (fault : Fault) (shown x : List ℕ) (items : List Item) (v : List ℕ) → tail ≡ shown ++ x → Closes (its_scan limits stream tail i) i.blocks (place_in limits stream tail i) fault shown
      → HasNext limits i.items (i.head ++ (i.text ++ tail)) items v → LeadingMarker v → ⊥
  closed_meets_next fault shown x items v e c g m =
      closed_not_next limits stream tail i fault shown x g.first (g.text ++ v) e c (next_in limits stream tail i items v g) (inr (next_marker items g.later g.text v g.others (λ z. m)))

  pub inside_closed_not_standing : (fault : Fault) (shown x behind : List ℕ) (j : InsideScan limits stream behind) → tail ≡ shown ++ x
      → Closes (its_scan limits stream tail i) i.blocks (place_in limits stream tail i) fault shown → StandsInside limits stream behind j → ⊥
  inside_closed_not_standing fault shown x behind j e c st = by (meet limits stream i.items j.items u v stands (inside_after limits stream behind j))
    where
      u : List ℕ
      u = i.head ++ (i.text ++ tail)

      v : List ℕ
      v = j.head ++ (j.text ++ behind)

      by : Meets limits i.items u j.items v → ⊥
      by (inl k) =
          let s = its_scan limits stream tail i in
          let w = two_inside behind j (λ s blocks. IsCalm s blocks (place_in limits stream behind j)) k.0 k.1 (inl st) in
          closed_not_calm s i.blocks (chunks s.interval s.places) (place_in limits stream tail i) (place_in limits stream behind j) fault shown x (its_sound limits stream tail i) e w.0 c w.1
      by (inr (inl g)) = closed_meets_next fault shown x j.items v e c g (inside_marker limits stream behind j (j.text ++ behind))
      by (inr (inr g)) =
          filled_not_next limits stream behind j st.0.0 i.items u st.0.1 g (next_marker i.items g.later g.text u g.others (λ z. inside_marker limits stream tail i (i.text ++ tail)))

pub inside_closed_once : (limits : Limits) (bytes tail tail' : List ℕ) (f g : Fault) → (i : InsideScan limits bytes tail) → ScanReveals limits bytes f tail i → (j : InsideScan limits bytes tail')
    → ScanReveals limits bytes g tail' j → f ≡ g
inside_closed_once limits bytes tail tail' f g i c j d = by (meet limits bytes i.items j.items u v (inside_after limits bytes tail i) (inside_after limits bytes tail' j))
  where
    u : List ℕ
    u = i.head ++ (i.text ++ tail)

    v : List ℕ
    v = j.head ++ (j.text ++ tail')

    by : Meets limits i.items u j.items v → f ≡ g
    by (inl k) =
        let s = its_scan limits bytes tail i in
        let w = two_inside limits bytes tail i tail' j (λ s blocks. Closes s blocks (place_in limits bytes tail' j) g tail') k.0 k.1 d in
        closed_once s i.blocks (chunks s.interval s.places) (place_in limits bytes tail i) (place_in limits bytes tail' j) f g (its_sound limits bytes tail i) w.0 c w.1
    by (inr (inl h)) = absurd (closed_meets_next limits bytes tail i f tail [] j.items v (sym (append-nil tail)) c h (inside_marker limits bytes tail' j (j.text ++ tail')))
    by (inr (inr h)) = absurd (closed_meets_next limits bytes tail' j g tail' [] i.items u (sym (append-nil tail')) d h (inside_marker limits bytes tail i (i.text ++ tail)))
