-- Bytes of a scan's data that have a fault aren't a faultless prefix, and are no complete scan with a marker after it.
use Rattle.std.proofs.Common.{◌≡◌, ℕ, suc, ◌+◌, ◌%◌, List, [], ◌∷◌, ◌++◌, length, refl, sym, ap, ◌∙◌, subst, arith, inl, inr, ⊎_elim}
use Rattle.std.specs.Prelude.{◌⊎◌, map, replicate}
use Rattle.std.proofs.lemmas.List.{append_assoc, append-nil}
use Rattle.jpg_spec.specs.Bits.{SpellsData, bits_of_bytes}
use Rattle.jpg_spec.specs.Scan.{Blocks, Scan, unit_at}
use Rattle.jpg_spec.specs.ScanFaults.{DataReveals}
use Rattle.jpg_spec.specs.Sound.{IsSound}
use Rattle.jpg_spec.specs.Markers.{SpellsMarker}
use Rattle.jpg_spec.specs.FirstFault.{HoldsUnits}
use Rattle.jpg_spec.specs.declared.fault.Fault.{Fault}
use Rattle.jpg_spec.specs.declared.fault.Fault.TheVariants.{EntropyShort, ExtraData, RestartWrong}
use Rattle.jpg_spec.specs.declared.frame.Place.{Place}
use Rattle.jpg_spec.proofs.Segments.MarkersOnce.{no_head, marker_once, fill_no_marker}
use Rattle.jpg_spec.specs.UnfinishedFile.{Completes, AreDue}
use Rattle.jpg_spec.specs.ScanReading.{LeadingMarker}
use Rattle.jpg_spec.proofs.Bits.Gate.{data_no_marker, data_no_fill}
use Rattle.jpg_spec.proofs.Files.ScansOnce.{DataPlace, InLater, InSame, IsAhead, TwoPlaces, further, one_place, no_places, scan_once}
use Rattle.jpg_spec.proofs.Bits.FaultsOnce.{data_show_once}
use Rattle.jpg_spec.proofs.Bits.DataFacts.{bits_join, shows_more, holds_more, completes_holds, shown_not_complete, shown_not_held, too_long, completes_once}

-- what ScanReveals says, of a place in a scan's data
abbrev pub Closes : Scan → Blocks → DataPlace → Fault → List ℕ → Type 0
Closes s before p fault tail =
    ((tail ≡ []) × DataReveals s.coding (map (unit_at s before) p.places) fault (bits_of_bytes p.coded))
    ⊎ (((fault ≡ EntropyShort) × ((code : ℕ) × SpellsMarker code tail) × (HoldsUnits s before p.places p.coded → ⊥))
    ⊎ (((fault ≡ ExtraData) × (tail ≡ []) × ((first : List ℕ) × (byte : ℕ) × (p.coded ≡ first ++ byte ∷ []) × HoldsUnits s before p.places first))
    ⊎ ((fault ≡ RestartWrong) × HoldsUnits s before p.places p.coded × ((next : List Place) × (others : List (List Place)) × (p.later ≡ next ∷ others))
    × ((code : ℕ) × SpellsMarker code tail × (code ≡ 0xd0 + length p.done % 8 → ⊥)))))

-- FF bytes after data without a fault, or a marker after the last interval's
abbrev pub IsCalm : Scan → Blocks → DataPlace → Type 0
IsCalm s before p =
    (((fill : ℕ) × (p.behind ≡ replicate fill 255)) × (AreDue s before p.places p.coded ⊎ Completes s before p.places p.coded))
    ⊎ (Completes s before p.places p.coded × (p.later ≡ []) × LeadingMarker p.behind)

-- data whose bytes are none, with more bytes or not, are none
no_more : (m t rest : List ℕ) → SpellsData m t → t ++ rest ≡ [] → (m ≡ []) × (t ≡ [])
no_more [] t rest s e = (refl, s)
no_more (x ∷ m) t rest s e = absurd (by s.3 (ap (λ l. l ++ rest) (sym s.2) ∙ e))
  where
    by : ((x ≡ 255 → ⊥) × (s.0 ≡ x ∷ [])) ⊎ ((x ≡ 255) × ((fill : ℕ) × (s.0 ≡ replicate (suc fill) 255 ++ 0 ∷ []))) → s.0 ++ s.1 ++ rest ≡ [] → ⊥
    by (inl h) f = no_head x (s.1 ++ rest) (sym f ∙ append_assoc s.0 s.1 rest ∙ ap (λ l. l ++ (s.1 ++ rest)) h.1)
    by (inr h) f = no_head 255 ((replicate h.1.0 255 ++ 0 ∷ []) ++ (s.1 ++ rest)) (sym f ∙ append_assoc s.0 s.1 rest ∙ ap (λ l. l ++ (s.1 ++ rest)) h.1.1)

marker_some : (code : ℕ) (a : List ℕ) → SpellsMarker code a → a ≡ [] → ⊥
marker_some code a s e = no_head 255 (replicate s.0 255 ++ code ∷ []) (sym e ∙ s.1)

module _ (s : Scan) (before : Blocks) where
  -- CALM data after a place that closes

  closed_same : (p : DataPlace) (fault : Fault) (tail x m t v : List ℕ) → IsSound s.coding → SpellsData m t → tail ++ x ≡ t ++ v → Closes s before p fault tail → IsCalm s before (further p m v) → ⊥
  closed_same p fault tail x m t v sound d e (inl k) (inl calm) =
      ⊎_elim
      (λ (z : AreDue s before p.places (p.coded ++ m)). z.1 fault (subst (λ l. DataReveals s.coding (map (unit_at s before) p.places) fault l) (sym (bits_join p.coded m))
      (shows_more s.coding (map (unit_at s before) p.places) fault (bits_of_bytes p.coded) (bits_of_bytes m) k.1)))
      (λ (z : Completes s before p.places (p.coded ++ m)). shown_not_complete s before p.places fault p.coded m sound k.1 z) calm.1
  closed_same p fault tail x m t v sound d e (inl k) (inr calm) = shown_not_complete s before p.places fault p.coded m sound k.1 calm.0
  closed_same p fault tail x m t v sound d e (inr (inl k)) (inl calm) =
      let none = data_no_marker k.1.0 m t tail v x d k.1.1 (sym e) in
      fill_no_marker calm.0.0 k.1.0 tail x k.1.1 (sym calm.0.1 ∙ sym (e ∙ ap (λ l. l ++ v) none.1))
  closed_same p fault tail x m t v sound d e (inr (inl k)) (inr calm) =
      let none = data_no_marker k.1.0 m t tail v x d k.1.1 (sym e) in
      k.2 (subst (λ l. HoldsUnits s before p.places l) (ap (λ l. p.coded ++ l) none.0 ∙ append-nil p.coded) (completes_holds s before p.places (p.coded ++ m) calm.0))
  closed_same p fault tail x m t v sound d e (inr (inr (inl k))) calm = by calm
    where
      cut : p.coded ++ m ≡ k.2.0 ++ k.2.1 ∷ m
      cut = ap (λ l. l ++ m) k.2.2 ∙ append_assoc k.2.0 (k.2.1 ∷ []) m

      whole : Completes s before p.places (p.coded ++ m) → ⊥
      whole z = too_long s before p.places k.2.1 k.2.0 m sound k.2.3 (subst (λ l. Completes s before p.places l) cut z)

      by : IsCalm s before (further p m v) → ⊥
      by (inl (f, inl z)) = z.0 (subst (λ l. HoldsUnits s before p.places l) (sym cut) (holds_more s before p.places k.2.0 (k.2.1 ∷ m) k.2.3))
      by (inl (f, inr z)) = whole z
      by (inr z) = whole z.0
  closed_same p fault tail x m t v sound d e (inr (inr (inr k))) (inl calm) =
      let none = data_no_marker k.3.0 m t tail v x d k.3.1 (sym e) in
      fill_no_marker calm.0.0 k.3.0 tail x k.3.1 (sym calm.0.1 ∙ sym (e ∙ ap (λ l. l ++ v) none.1))
  closed_same p fault tail x m t v sound d e (inr (inr (inr k))) (inr calm) = no_places k.2.0 k.2.1 (sym calm.1 ∙ k.2.2)

  closed_later : (p : DataPlace) (fault : Fault) (tail x : List ℕ) → IsSound s.coding → p.behind ≡ tail ++ x → InLater s before 0 p → Closes s before p fault tail → ⊥
  closed_later p fault tail x sound e g (inl k) = shown_not_complete s before p.places fault p.coded g.more sound k.1 g.completes
  closed_later p fault tail x sound e g (inr (inl k)) =
      let none = data_no_marker k.1.0 g.more g.text tail (g.marker ++ g.rest) x g.spelled k.1.1 (sym g.behind ∙ e) in
      k.2 (subst (λ l. HoldsUnits s before p.places l) (ap (λ l. p.coded ++ l) none.0 ∙ append-nil p.coded) (completes_holds s before p.places (p.coded ++ g.more) g.completes))
  closed_later p fault tail x sound e g (inr (inr (inl k))) =
      too_long s before p.places k.2.1 k.2.0 g.more sound k.2.3
      (subst (λ l. Completes s before p.places l) (ap (λ l. l ++ g.more) k.2.2 ∙ append_assoc k.2.0 (k.2.1 ∷ []) g.more) g.completes)
  closed_later p fault tail x sound e g (inr (inr (inr k))) =
      let behind : tail ++ x ≡ g.text ++ (g.marker ++ g.rest) = sym e ∙ g.behind in
      let none = data_no_marker k.3.0 g.more g.text tail (g.marker ++ g.rest) x g.spelled k.3.1 (sym behind) in
      let z : 0 + length p.done ≡ length p.done = omega arith in
      k.3.2 ((marker_once k.3.0 (0xd0 + (0 + length p.done) % 8) tail g.marker x g.rest k.3.1 g.code (behind ∙ ap (λ l. l ++ (g.marker ++ g.rest)) none.1)).0 ∙ ap (λ n. 0xd0 + n % 8) z)

  -- nothing is missing where calm data continue with a place that closes
  calm_ends : (p : DataPlace) (m t u : List ℕ) → IsCalm s before p → SpellsData m t → p.behind ≡ t ++ u → (m ≡ []) × (t ≡ [])
  calm_ends p m t u (inl calm) k e = data_no_fill calm.0.0 m t u k (sym e ∙ calm.0.1)
  calm_ends p m t u (inr calm) k e = data_no_marker calm.2.code m t calm.2.marker u calm.2.rest k calm.2.spelled (sym e ∙ calm.2.cut)

  calm_not_later : (p : DataPlace) → IsCalm s before p → InLater s before 0 p → ⊥
  calm_not_later p (inl calm) g =
      let none = data_no_fill calm.0.0 g.more g.text (g.marker ++ g.rest) g.spelled (sym g.behind ∙ calm.0.1) in
      fill_no_marker calm.0.0 (0xd0 + (0 + length p.done) % 8) g.marker g.rest g.code (sym calm.0.1 ∙ g.behind ∙ ap (λ l. l ++ (g.marker ++ g.rest)) none.1)
  calm_not_later p (inr calm) g = no_places g.others.0 g.others.1 (sym calm.1 ∙ g.others.2)

  -- THE LAW: a place that closes and one that is calm don't begin the same data
  pub closed_not_calm : (all : List (List Place)) (p q : DataPlace) (fault : Fault) (tail x : List ℕ) → IsSound s.coding → p.behind ≡ tail ++ x → TwoPlaces s before all 0 p q
      → Closes s before p fault tail → IsCalm s before q → ⊥
  closed_not_calm all p q fault tail x sound e w k calm = by (scan_once s before all 0 p q w)
    where
      by : IsAhead s before 0 p q ⊎ IsAhead s before 0 q p → ⊥
      by (inl (inl g)) = closed_same p fault tail x g.more g.text q.behind sound g.spelled (sym e ∙ g.behind) k (subst (λ z. IsCalm s before z) g.place calm)
      by (inl (inr g)) = closed_later p fault tail x sound e g k
      by (inr (inl g)) =
          let none = calm_ends q g.more g.text p.behind calm g.spelled g.behind in
          let same : q ≡ further p [] p.behind =
          sym (one_place q p g none.0 none.1) ∙ ap (λ c. (let z : DataPlace = record p { coded = c } in z)) (sym (append-nil p.coded)) in
          closed_same p fault tail x [] [] p.behind sound refl (sym e) k (subst (λ z. IsCalm s before z) same calm)
      by (inr (inr g)) = calm_not_later q calm g

  -- TWO PLACES that close with the same bytes have one fault

  -- no data follow a place that closes
  closes_ends : (p : DataPlace) (fault : Fault) (tail m t rest : List ℕ) → Closes s before p fault tail → SpellsData m t → tail ≡ t ++ rest → (m ≡ []) × (t ≡ [])
  closes_ends p fault tail m t rest (inl k) d e = no_more m t rest d (sym e ∙ k.0)
  closes_ends p fault tail m t rest (inr (inl k)) d e = data_no_marker k.1.0 m t tail rest [] d k.1.1 (sym e ∙ sym (append-nil tail))
  closes_ends p fault tail m t rest (inr (inr (inl k))) d e = no_more m t rest d (sym e ∙ k.1)
  closes_ends p fault tail m t rest (inr (inr (inr k))) d e = data_no_marker k.3.0 m t tail rest [] d k.3.1 (sym e ∙ sym (append-nil tail))

  -- what has a fault has no byte after all units
  shown_not_extra : (p : DataPlace) (fault : Fault) (first : List ℕ) (byte : ℕ) → IsSound s.coding → DataReveals s.coding (map (unit_at s before) p.places) fault (bits_of_bytes p.coded) → p.coded ≡ first ++ byte ∷ []
      → HoldsUnits s before p.places first → ⊥
  shown_not_extra p fault first byte sound d e h =
      shown_not_held s before p.places fault p.coded [] sound d
      (subst (λ l. HoldsUnits s before p.places l) (sym e ∙ sym (append-nil p.coded)) (holds_more s before p.places first (byte ∷ []) h))

  closed_here : (p : DataPlace) (f g : Fault) (tail : List ℕ) → IsSound s.coding → Closes s before p f tail → Closes s before p g tail → f ≡ g
  closed_here p f g tail sound (inl k) (inl l) = data_show_once s.coding (map (unit_at s before) p.places) f g (bits_of_bytes p.coded) sound k.1 l.1
  closed_here p f g tail sound (inl k) (inr (inl l)) = absurd (marker_some l.1.0 tail l.1.1 k.0)
  closed_here p f g tail sound (inl k) (inr (inr (inl l))) = absurd (shown_not_extra p f l.2.0 l.2.1 sound k.1 l.2.2 l.2.3)
  closed_here p f g tail sound (inl k) (inr (inr (inr l))) = absurd (marker_some l.3.0 tail l.3.1 k.0)
  closed_here p f g tail sound (inr (inl k)) (inl l) = absurd (marker_some k.1.0 tail k.1.1 l.0)
  closed_here p f g tail sound (inr (inl k)) (inr (inl l)) = k.0 ∙ sym l.0
  closed_here p f g tail sound (inr (inl k)) (inr (inr (inl l))) = absurd (marker_some k.1.0 tail k.1.1 l.1)
  closed_here p f g tail sound (inr (inl k)) (inr (inr (inr l))) = absurd (k.2 l.1)
  closed_here p f g tail sound (inr (inr (inl k))) (inl l) = absurd (shown_not_extra p g k.2.0 k.2.1 sound l.1 k.2.2 k.2.3)
  closed_here p f g tail sound (inr (inr (inl k))) (inr (inl l)) = absurd (marker_some l.1.0 tail l.1.1 k.1)
  closed_here p f g tail sound (inr (inr (inl k))) (inr (inr (inl l))) = k.0 ∙ sym l.0
  closed_here p f g tail sound (inr (inr (inl k))) (inr (inr (inr l))) = absurd (marker_some l.3.0 tail l.3.1 k.1)
  closed_here p f g tail sound (inr (inr (inr k))) (inl l) = absurd (marker_some k.3.0 tail k.3.1 l.0)
  closed_here p f g tail sound (inr (inr (inr k))) (inr (inl l)) = absurd (l.2 k.1)
  closed_here p f g tail sound (inr (inr (inr k))) (inr (inr (inl l))) = absurd (marker_some k.3.0 tail k.3.1 l.1)
  closed_here p f g tail sound (inr (inr (inr k))) (inr (inr (inr l))) = k.0 ∙ sym l.0

  closed_forward : (p q : DataPlace) (f g : Fault) → IsSound s.coding → IsAhead s before 0 p q → Closes s before p f p.behind → Closes s before q g q.behind → f ≡ g
  closed_forward p q f g sound (inl z) k l =
      let none = closes_ends p f p.behind z.more z.text q.behind k z.spelled z.behind in
      closed_here p f g p.behind sound k (subst (λ (w : DataPlace). Closes s before w g w.behind) (one_place p q z none.0 none.1) l)
  closed_forward p q f g sound (inr z) k l = absurd (closed_later p f p.behind [] sound (sym (append-nil p.behind)) z k)

  -- THE LAW
  pub closed_once : (all : List (List Place)) (p q : DataPlace) (f g : Fault) → IsSound s.coding → TwoPlaces s before all 0 p q → Closes s before p f p.behind → Closes s before q g q.behind → f ≡ g
  closed_once all p q f g sound w k l =
      ⊎_elim
      (λ (z : IsAhead s before 0 p q). closed_forward p q f g sound z k l)
      (λ (z : IsAhead s before 0 q p). sym (closed_forward q p g f sound z l k))
      (scan_once s before all 0 p q w)

  -- THE LAW: the last interval with a marker after it isn't a faultless prefix of data
  pub ended_not_standing : (all : List (List Place)) (p q : DataPlace) (fill : ℕ) → TwoPlaces s before all 0 p q → p.later ≡ [] → LeadingMarker p.behind → q.behind ≡ replicate fill 255 → ⊥
  ended_not_standing all p q fill w none k f = by (scan_once s before all 0 p q w)
    where
      by : IsAhead s before 0 p q ⊎ IsAhead s before 0 q p → ⊥
      by (inl (inl g)) =
          let z = data_no_marker k.code g.more g.text k.marker q.behind k.rest g.spelled k.spelled (sym g.behind ∙ k.cut) in
          fill_no_marker fill k.code k.marker k.rest k.spelled (sym f ∙ sym (g.behind ∙ ap (λ l. l ++ q.behind) z.1) ∙ k.cut)
      by (inl (inr g)) = no_places g.others.0 g.others.1 (sym none ∙ g.others.2)
      by (inr (inl g)) =
          let z = data_no_fill fill g.more g.text p.behind g.spelled (sym g.behind ∙ f) in
          fill_no_marker fill k.code k.marker k.rest k.spelled (sym f ∙ g.behind ∙ ap (λ l. l ++ p.behind) z.1 ∙ k.cut)
      by (inr (inr g)) =
          let z = data_no_fill fill g.more g.text (g.marker ++ g.rest) g.spelled (sym g.behind ∙ f) in
          fill_no_marker fill (0xd0 + (0 + length q.done) % 8) g.marker g.rest g.code (sym f ∙ g.behind ∙ ap (λ l. l ++ (g.marker ++ g.rest)) z.1)

  -- THE LAW: complete scans are split in one way
  pub ended_once : (all : List (List Place)) (p q : DataPlace) → IsSound s.coding → TwoPlaces s before all 0 p q → p.later ≡ [] → q.later ≡ [] → Completes s before p.places p.coded
      → Completes s before q.places q.coded → p ≡ q
  ended_once all p q sound w none none' k k' = by (scan_once s before all 0 p q w)
    where
      one : (p q : DataPlace) → InSame p q → Completes s before p.places p.coded → Completes s before q.places q.coded → q ≡ p
      one p q g k l =
          let z = completes_once s before p.places p.coded g.more sound k (subst (λ (r : DataPlace). Completes s before r.places r.coded) g.place l) in
          one_place p q g z (subst (λ m. SpellsData m g.text) z g.spelled)

      by : IsAhead s before 0 p q ⊎ IsAhead s before 0 q p → p ≡ q
      by (inl (inl g)) = sym (one p q g k k')
      by (inl (inr g)) = absurd (no_places g.others.0 g.others.1 (sym none ∙ g.others.2))
      by (inr (inl g)) = one q p g k' k
      by (inr (inr g)) = absurd (no_places g.others.0 g.others.1 (sym none' ∙ g.others.2))
