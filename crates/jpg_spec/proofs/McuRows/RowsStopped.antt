-- If no further unit and no further data byte follow, no more blocks are decoded.
use Rattle.std.proofs.Common.{◌≡◌, ℕ, ◌+◌, ◌*◌, ◌%◌, ◌≤◌, Bool, List, [], ◌∷◌, ◌++◌, length, refl, sym, ap, ◌∙◌, subst, arith, inl, inr, ℤ}
use Rattle.std.specs.Prelude.{◌⊎◌, flat_map, replicate}
use Rattle.std.proofs.lemmas.List.{append-nil, length-append}
use Rattle.jpg_spec.specs.Bits.{SpellsData, bits_of_bytes}
use Rattle.jpg_spec.specs.Lists.{joined}
use Rattle.jpg_spec.specs.Elements.{Coding, Covers, Element, UnitLeft, at_start}
use Rattle.jpg_spec.specs.Parts.{StandsInUnits}
use Rattle.jpg_spec.specs.Scan.{Blocks, Scan, band, block_at}
use Rattle.jpg_spec.specs.ScanFaults.{DataReveals}
use Rattle.jpg_spec.specs.Sound.{IsSound}
use Rattle.jpg_spec.specs.Markers.{SpellsMarker}
use Rattle.jpg_spec.specs.FileMeaning.{no_blocks}
use Rattle.jpg_spec.specs.FirstFault.{HoldsUnits}
use Rattle.jpg_spec.specs.ScanReading.{LeadingMarker}
use Rattle.jpg_spec.specs.RowLaws.{TellsNoMore}
use Rattle.jpg_spec.specs.declared.fault.Fault.{Fault}
use Rattle.jpg_spec.specs.declared.frame.Place.{Place}
use Rattle.jpg_spec.proofs.Files.BlocksOnce.{band_of}
use Rattle.jpg_spec.proofs.Bits.DataFacts.{bits_join}
use Rattle.jpg_spec.proofs.Bits.Excludes.{at_fault, no_element_there}
use Rattle.jpg_spec.proofs.Bits.Gate.{DataGoOn, data_no_fill, data_no_marker, data_once}
use Rattle.jpg_spec.proofs.Segments.MarkersOnce.{fill_no_marker, marker_once}
use Rattle.jpg_spec.proofs.Bits.Once.{BeginsElements, Continues, elements_once}
use Rattle.jpg_spec.proofs.Bits.Parts.{FrontAt, part_front}
use Rattle.jpg_spec.proofs.Bits.PartStands.{before_part, part_no_more}
use Rattle.jpg_spec.proofs.Bits.Sound.{decodes}
use Rattle.jpg_spec.proofs.Files.ScansOnce.{CutInterval, DataPlace, Marked, after_one, cut_interval, marked, places_apart, with_done}
use Rattle.jpg_spec.proofs.McuRows.RowBands.{AreBlocks, DecodedTo, DecodesFirst, TellsAt, TwoDecoded, after_interval, as_many, at_intervals, decodes_part, first_elements, reached, some_left, tells_interval, tells_later, two_later, units_before}

-- BITS that end in a unit, or have a fault in it, encode no more

stands_most : (c : Coding) (units : List UnitLeft) (told : List ℤ) (left : List UnitLeft) (bits : List Bool) (es : List Element) → IsSound c → StandsInUnits c units told left bits
    → (a : BeginsElements c (at_start units) es bits) → length a.told ≤ length told
stands_most c units told left bits es sound w a = by (elements_once c (at_start units) w.elements es bits (decodes c sound) (before_part w) a)
  where
    at : FrontAt c w.standing w.part
    at = part_front c w.standing w.unit w.others w.here w.part w.is_part

    size : length told ≡ length w.before + length w.here
    size = ap length w.same ∙ length-append w.before w.here

    longer : (es : List Element) (values : List ℤ) (spelling : List Bool) → Covers c w.standing es values spelling a.standing → a.told ≡ w.before ++ values → w.part ≡ spelling ++ a.rest → length a.told ≤ length told
    longer [] values spelling h same cut = omega (arith, ap length same, length-append w.before values, ap length h.0, size)
    longer (d ∷ es) values spelling h same cut =
        absurd (part_no_more c w.standing at.unit at.units w.part d es sound at.left at.is_front (record { told = values; front = spelling; rest = a.rest; standing = a.standing; cut = cut; covers = h }))

    by : Continues (before_part w) a ⊎ Continues a (before_part w) → length a.told ≤ length told
    by (inl g) = longer g.elements g.values g.spelling g.covers g.joined.1 g.behind
    by (inr g) = omega (arith, ap length g.joined.1, length-append a.told g.values, size)

shows_most : (c : Coding) (units : List UnitLeft) (fault : Fault) (bits : List Bool) (es : List Element) → IsSound c → (d : DataReveals c units fault bits) → (a : BeginsElements c (at_start units) es bits) → length a.told ≤ length d.told
shows_most c units fault bits es sound d a = by (elements_once c (at_start units) d.elements es bits (decodes c sound) (at_fault d) a)
  where
    longer : (es : List Element) (values : List ℤ) (spelling : List Bool) → Covers c d.standing es values spelling a.standing → a.told ≡ d.told ++ values → d.here ++ d.rest ≡ spelling ++ a.rest → length a.told ≤ length d.told
    longer [] values spelling h same cut = omega (arith, ap length same, length-append d.told values, ap length h.0)
    longer (e ∷ es) values spelling h same cut =
        absurd (no_element_there d d.rest e es (decodes c sound) (record { told = values; front = spelling; rest = a.rest; standing = a.standing; cut = cut; covers = h }))

    by : Continues (at_fault d) a ⊎ Continues a (at_fault d) → length a.told ≤ length d.told
    by (inl g) = longer g.elements g.values g.spelling g.covers g.joined.1 g.behind
    by (inr g) = omega (arith, ap length g.joined.1, length-append a.told g.values)

-- PLACES

abbrev pub HasWholeBands : Scan → Type 0
HasWholeBands s = (block : List ℤ) → length block ≡ 64 → length (band s block) ≡ 64

pub bands_size : (s : Scan) (told : Blocks) (places : List Place) → HasWholeBands s → AreBlocks told → length (flat_map (band_of s told) places) ≡ 64 * length places
bands_size s told [] wide sizes = refl
bands_size s told (p ∷ places) wide sizes =
    let here = wide (block_at told p) (sizes p.component p.x p.y) in
    omega (arith, length-append (band_of s told p) (flat_map (band_of s told) places), here, bands_size s told places wide sizes)

module _ (s : Scan) (sound : IsSound s.coding) (wide : HasWholeBands s) where
  -- at most as many places as are decoded
  few_told : (places : List Place) (coded : List ℕ) (count : ℕ) (other : Blocks) (b : List Place) → AreBlocks other → TellsNoMore s no_blocks places coded count → DecodesFirst s other places b (bits_of_bytes coded)
      → length b ≤ count
  few_told places coded count other b sizes (inl k) h =
      let few = k.3 in
      omega (arith, few, bands_size s other b wide sizes, stands_most s.coding (units_before s places) k.0 k.1 (bits_of_bytes coded) (h.first).0 sound k.2 (first_elements h))
  few_told places coded count other b sizes (inr (inl k)) h =
      let few = k.2 in
      omega (arith, few, bands_size s other b wide sizes, shows_most s.coding (units_before s places) k.0 (bits_of_bytes coded) (h.first).0 sound k.1 (first_elements h))
  few_told places coded count other b sizes (inr (inr k)) h =
      let all = k.1 in
      omega (arith, all, ap length h.all, length-append b h.rest)

  -- DATA BYTES end there

  abbrev pub StopsAt : ℕ → DataPlace → Type 0
  StopsAt turn p =
      ((fill : ℕ) × (p.behind ≡ replicate fill 255)) ⊎ ((m : LeadingMarker p.behind) × (HoldsUnits s no_blocks p.places p.coded → m.code ≡ 0xd0 + (turn + length p.done) % 8 → p.later ≡ []))

  no_data : (turn : ℕ) (p : DataPlace) (m t v : List ℕ) → StopsAt turn p → SpellsData m t → p.behind ≡ t ++ v → (m ≡ []) × (t ≡ [])
  no_data turn p m t v (inl k) d e = data_no_fill k.0 m t v d (sym e ∙ k.1)
  no_data turn p m t v (inr k) d e = data_no_marker k.0.code m t k.0.marker v k.0.rest d k.0.spelled (sym e ∙ k.0.cut)

  -- another interval doesn't begin after it
  no_interval : (turn : ℕ) (p : DataPlace) (marker x : List ℕ) → StopsAt turn (with_done [] p) → HoldsUnits s no_blocks p.places p.coded → SpellsMarker (0xd0 + turn % 8) marker → p.behind ≡ marker ++ x → p.later ≡ []
  no_interval turn p marker x (inl k) h m e = absurd (fill_no_marker k.0 (0xd0 + turn % 8) marker x m (sym k.1 ∙ e))
  no_interval turn p marker x (inr k) h m e =
      let z : turn ≡ turn + 0 = omega arith in
      let same = marker_once k.0.code (0xd0 + turn % 8) k.0.marker marker k.0.rest x k.0.spelled m (sym k.0.cut ∙ e) in
      k.1 h (same.0 ∙ ap (λ n. 0xd0 + n % 8) z)

  -- with one fewer interval done before it
  later_stops : (turn : ℕ) (c : List ℕ) (p : DataPlace) → StopsAt turn (after_one c p) → StopsAt (turn + 1) p
  later_stops turn c p (inl k) = inl k
  later_stops turn c p (inr k) = let z : turn + 1 + length p.done ≡ turn + length (c ∷ p.done) = omega arith in inr (k.0, λ h code. k.1 h (code ∙ ap (λ x. 0xd0 + x % 8) z))

  -- the place up to which the data are decoded
  abbrev pub place_of : {all : List (List Place)} (a : DecodedTo) → TellsAt s all a → DataPlace
  place_of a w = record { done = a.done; coded = a.coded; places = a.part ++ w.rest; later = w.later; behind = a.behind }

  -- Both places are in the first interval.
  few_first : (p : List Place) (all : List (List Place)) (turn : ℕ) (a b : DecodedTo) → (w : TwoDecoded s (p ∷ all) turn (at_intervals [] [] a) (at_intervals [] [] b))
      → TellsNoMore s no_blocks (a.part ++ (w.first).rest) a.coded (length a.part) → StopsAt turn (place_of (at_intervals [] [] a) w.first) → length b.part ≤ length a.part
  few_first p all turn a b w most stops =
      let places = a.part ++ (w.first).rest in
      let cut : p ≡ places = (places_apart p places all (w.first).later (w.first).intervals).0 in
      let bits = by (data_once a.coded b.coded w.text w.other a.behind b.behind w.spelled w.other_spelled w.same) in
      let h = decodes_part s sound p all turn b bits.0 (bits_of_bytes a.coded) bits.1 w.second in
      few_told places a.coded (length a.part) b.told b.part (w.second).sizes most (subst (λ q. DecodesFirst s b.told q b.part (bits_of_bytes a.coded)) cut h)
    where
      by : DataGoOn a.coded w.text a.behind b.coded w.other b.behind ⊎ DataGoOn b.coded w.other b.behind a.coded w.text a.behind → (x : List Bool) × (bits_of_bytes a.coded ≡ bits_of_bytes b.coded ++ x)
      by (inl g) =
          let none = no_data turn (place_of (at_intervals [] [] a) w.first) g.more g.text b.behind stops g.spelled g.behind in
          ([], ap bits_of_bytes (sym (append-nil a.coded) ∙ ap (λ l. a.coded ++ l) (sym none.0) ∙ sym g.joined) ∙ sym (append-nil (bits_of_bytes b.coded)))
      by (inr g) = (bits_of_bytes g.more, ap bits_of_bytes g.joined ∙ bits_join b.coded g.more)

  -- The other place isn't in a later interval.
  never_later : (p : List Place) (all : List (List Place)) (turn : ℕ) (a b : DecodedTo) (f : List ℕ) (q : List Place) → (w : TwoDecoded s (p ∷ all) turn (at_intervals [] [] a) (after_interval f q b))
      → StopsAt turn (place_of (at_intervals [] [] a) w.first) → ⊥
  never_later p all turn a b f q w stops =
      let e1 = places_apart p (a.part ++ (w.first).rest) all (w.first).later (w.first).intervals in
      omega (arith, some_left s all b (tells_later s sound p all turn f q b w.second), ap length (e1.1 ∙ last))
    where
      here : DataPlace
      here = place_of (at_intervals [] [] a) w.first

      interval : CutInterval turn f (b.done ++ b.coded ∷ []) w.other
      interval = cut_interval turn f b.done b.coded w.other w.other_spelled

      x : List ℕ
      x = interval.rest ++ b.behind

      k : Marked (0xd0 + turn % 8) f (w.text ++ a.behind) x
      k = marked turn f (b.done ++ b.coded ∷ []) w.other b.behind (w.text ++ a.behind) w.same interval

      same : (f ≡ a.coded) × (a.behind ≡ k.marker ++ x)
      same = by (data_once f a.coded k.front w.text (k.marker ++ x) a.behind k.spelled w.spelled (sym k.cut))
        where
          by : DataGoOn f k.front (k.marker ++ x) a.coded w.text a.behind ⊎ DataGoOn a.coded w.text a.behind f k.front (k.marker ++ x) → (f ≡ a.coded) × (a.behind ≡ k.marker ++ x)
          by (inl g) =
              let none = data_no_marker (0xd0 + turn % 8) g.more g.text k.marker a.behind x g.spelled k.marks (sym g.behind) in
              (sym (g.joined ∙ ap (λ l. f ++ l) none.0 ∙ append-nil f), sym (g.behind ∙ ap (λ l. l ++ a.behind) none.1))
          by (inr g) =
              let none = no_data turn here g.more g.text (k.marker ++ x) stops g.spelled g.behind in
              (g.joined ∙ ap (λ l. a.coded ++ l) none.0 ∙ append-nil a.coded, g.behind ∙ ap (λ l. l ++ (k.marker ++ x)) none.1)

      holds : HoldsUnits s no_blocks (a.part ++ (w.first).rest) a.coded
      holds =
          let e1 = (places_apart p (a.part ++ (w.first).rest) all (w.first).later (w.first).intervals).0 in
          let h = (tells_interval s sound p all turn f q b w.second).1 in
          let at : HoldsUnits s no_blocks p f = (flat_map (band_of s b.told) p, (h.0, h.1.0, h.1.2, h.2)) in
          subst (λ y. HoldsUnits s no_blocks (a.part ++ (w.first).rest) y) same.0 (subst (λ y. HoldsUnits s no_blocks y f) e1 at)

      last : (w.first).later ≡ []
      last = no_interval turn here k.marker x stops holds k.marks same.1

module _ (s : Scan) (sound : IsSound s.coding) (wide : HasWholeBands s) (a b : DecodedTo) where
  few_from : (all : List (List Place)) (turn : ℕ) (done done' : List (List ℕ)) (whole whole' : List (List Place)) → (w : TwoDecoded s all turn (at_intervals done whole a) (at_intervals done' whole' b))
      → TellsNoMore s no_blocks (a.part ++ (w.first).rest) a.coded (length a.part) → StopsAt s sound wide turn (place_of s sound wide (at_intervals done whole a) w.first) → length (joined whole' ++ b.part) ≤ length (joined whole ++ a.part)
  few_from (p ∷ all) turn [] [] [] [] w most stops = few_first s sound wide p all turn a b w most stops
  few_from (p ∷ all) turn [] (g ∷ done') [] (q ∷ whole') w most stops = absurd (never_later s sound wide p all turn a (at_intervals done' whole' b) g q w stops)
  few_from (p ∷ all) turn (f ∷ done) [] (q ∷ whole) [] w most stops =
      let z = w.second in
      let same = (tells_interval s sound p all turn f q (at_intervals done whole a) w.first).0 in
      let other = (places_apart p (b.part ++ z.rest) all z.later z.intervals).0 in
      omega (arith, ap length same, ap length other, length-append b.part z.rest, length-append (joined (q ∷ whole)) a.part, length-append q (joined whole))
  few_from (p ∷ all) turn (f ∷ done) (g ∷ done') (q ∷ whole) (q' ∷ whole') w most stops =
      let a' = at_intervals done whole a in
      let b' = at_intervals done' whole' b in
      let same = (tells_interval s sound p all turn f q a' w.first).0 in
      let other = (tells_interval s sound p all turn g q' b' w.second).0 in
      let later = two_later s sound p all turn f g q q' a' b' w in
      let ih = few_from all (turn + 1) done done' whole whole' later.1 most (later_stops s sound wide turn f (place_of s sound wide a' (tells_later s sound p all turn f q a' w.first)) stops) in
      omega (arith, ih, ap length same, ap length other, length-append (joined whole) a.part, length-append (joined whole') b.part, length-append (joined (q ∷ whole)) a.part, length-append q (joined whole), length-append (joined (q' ∷ whole')) b.part, length-append q' (joined whole'))
  few_from all turn done done' whole whole' w most stops =
      absurd (omega (arith, as_many s no_blocks a.told whole done (w.first).spelled, as_many s no_blocks b.told whole' done' (w.second).spelled, some_left s all (at_intervals done whole a) w.first))

-- THE LAW
pub no_more_told : (s : Scan) (sound : IsSound s.coding) (wide : HasWholeBands s) (all : List (List Place)) (turn : ℕ) (a b : DecodedTo) → (w : TwoDecoded s all turn a b) → TellsNoMore s no_blocks (a.part ++ (w.first).rest) a.coded (length a.part) → StopsAt s sound wide turn (place_of s sound wide a w.first)
    → length (reached b) ≤ length (reached a)
no_more_told s sound wide all turn a b w most stops = few_from s sound wide a b all turn a.done b.done a.whole b.whole w most stops
