-- The coefficients of a file that ends early are in the bounds of its precision.
use Rattle.std.proofs.Common.{◌≡◌, ℕ, zero, suc, ◌+◌, ◌-◌, ◌<◌, ◌≤◌, Bool, true, false, ◌==◌, List, [], ◌∷◌, ◌++◌, length, drop, get_or, refl, sym, ap, ◌∙◌, subst, arith, inl, inr, ⊎_elim, ℤ, pos, None}
use Rattle.std.specs.Prelude.{◌⊎◌, map, flat_map, nat_le}
use Rattle.std.proofs.lemmas.Bool.Decides.{nat_tests}
use Rattle.std.proofs.lemmas.Bool.{cases_lt}
use Rattle.std.proofs.lemmas.List.{append_assoc, length-append, length-take, length-drop, length-replicate, get_or_past, replicate-append-replicate}
use Rattle.jpg_spec.specs.Bits.{bits_of_bytes}
use Rattle.jpg_spec.specs.Lists.{any_of, joined}
use Rattle.jpg_spec.specs.Geometry.{Frame, bounds, bounds_of}
use Rattle.jpg_spec.specs.Elements.{Coding, UnitLeft, Standing, Element, Covers, at_start, old_values, predictions_after, are_in_bounds, corrected, zeros}
use Rattle.jpg_spec.specs.Parts.{PartOfElement, in_code, in_difference, in_number, in_count, in_value, in_long, in_ends, StandsInUnits}
use Rattle.jpg_spec.specs.Scan.{Blocks, Scan, band, block_at, unit_at, coefficient}
use Rattle.jpg_spec.specs.InForce.{frame_of}
use Rattle.jpg_spec.specs.Items.{Item, segments_of, contents_rule}
use Rattle.jpg_spec.specs.Meaning.{Meaning, picture_frame}
use Rattle.jpg_spec.specs.FileMeaning.{scan_after, Leads}
use Rattle.jpg_spec.specs.PictureInWork.{is_at, is_in_band, OnlyChanges, ScanSoFar}
use Rattle.jpg_spec.specs.Ranges.{is_coefficient, AreInRange}
use Rattle.jpg_spec.specs.Early.{ScanInPart, EndsAfter, EndsInside, segments_with, MeansEarly, IsMeaning}
use Rattle.jpg_spec.specs.declared.frame.Limits.{Limits}
use Rattle.jpg_spec.specs.declared.frame.Place.{Place}
use Rattle.jpg_spec.proofs.Files.BlocksOnce.{band_of, length_band, in_band}
use Rattle.jpg_spec.proofs.Basics.Common.{both, bounds_join, clash, le_of, same_of}
use Rattle.jpg_spec.proofs.Bits.Once.{head_inj}
use Rattle.jpg_spec.proofs.Bits.PartsCounted.{part_all}
use Rattle.jpg_spec.proofs.Places.PictureInWork.{leads_sizes}
use Rattle.jpg_spec.proofs.Headers.Precisions.{of_bounds}
use Rattle.jpg_spec.proofs.Files.Ranges.{NoDc, DcAlone, IsMode, flat_within, any_step, mode_after, PlacesWithin, intervals_within, at_place, value_in, zero_in, scan_mode, leads_in_range, means_in_range, real_in_range}
use Rattle.jpg_spec.proofs.Basics.Rows.{append_apart}
use Rattle.jpg_spec.proofs.Bits.Within.{AreWithin, length_corrected, one_band}

-- ZEROS, for what wasn't decoded

abbrev pub ZerosFit : Coding → Type 0
ZerosFit c = (b : Bool) (n : ℕ) → are_in_bounds c.bounds b (zeros n) ≡ true

zeros_join : (m n : ℕ) → zeros (m + n) ≡ zeros m ++ zeros n
zeros_join m n = sym (replicate-append-replicate m n (pos 0))

zeros_within : (c : Coding) (units : List UnitLeft) → ZerosFit c → AreWithin c units (zeros (length (old_values units)))
zeros_within c [] fit = refl
zeros_within c (u ∷ units) fit = (
  zeros (length u.old),
  zeros (length (old_values units)),
  ap zeros (length-append u.old (old_values units)) ∙ zeros_join (length u.old) (length (old_values units)),
  length-replicate (length u.old) (pos 0),
  fit u.has_dc (length u.old),
  zeros_within c units fit,
)

-- COMPLETE ELEMENTS AND A PART OF ONE MORE, with zeros after them

covers_within : (c : Coding) (s t : Standing) (es : List Element) (told more : List ℤ) (bits : List Bool) → IsMode c s.left → Covers c s es told bits t → AreWithin c t.left more → AreWithin c s.left (told ++ more)
covers_within c s t [] told more bits mode k w = subst (λ l. AreWithin c s.left (l ++ more)) (sym k.0) (subst (λ (q : Standing). AreWithin c q.left more) k.2 w)
covers_within c s t (e ∷ es) told more bits mode k w =
    let m = subst (λ l. IsMode c l) k.7 mode in
    let next = mode_after c (s.predictions (k.0).component) e k.0 k.1 k.2 k.3 k.11 m in
    let ih = covers_within c (record { predictions = predictions_after s.predictions (k.0).component e; left = k.3 }) t es k.4 more k.6 next k.13 w in
    let here : AreWithin c (k.0 ∷ k.1) (k.2 ++ (k.4 ++ more)) = any_step c (s.predictions (k.0).component) e k.0 k.1 k.2 k.3 (k.4 ++ more) m k.11 k.12 ih in
    subst (λ l. AreWithin c l (told ++ more)) (sym k.7) (subst (λ x. AreWithin c (k.0 ∷ k.1) x) (sym (ap (λ x. x ++ more) k.8 ∙ append_assoc k.2 k.4 more)) here)

covers_mode : (c : Coding) (s t : Standing) (es : List Element) (told : List ℤ) (bits : List Bool) → IsMode c s.left → Covers c s es told bits t → IsMode c t.left
covers_mode c s t [] told bits mode k = subst (λ (q : Standing). IsMode c q.left) (sym k.2) mode
covers_mode c s t (e ∷ es) told bits mode k =
    let m = subst (λ l. IsMode c l) k.7 mode in
    let next = mode_after c (s.predictions (k.0).component) e k.0 k.1 k.2 k.3 k.11 m in
    covers_mode c (record { predictions = predictions_after s.predictions (k.0).component e; left = k.3 }) t es k.4 k.6 next k.13

abbrev with_passed : UnitLeft → List ℤ → UnitLeft
with_passed u passed = record u { old = passed ++ u.old }

-- new values of what was skipped of the first unit
first_within : (c : Coding) (u : UnitLeft) (others : List UnitLeft) (passed here : List ℤ) → ZerosFit c → u.has_dc ≡ false → length here ≡ length passed → are_in_bounds c.bounds false here ≡ true
    → AreWithin c (with_passed u passed ∷ others) (here ++ zeros (length (old_values (u ∷ others))))
first_within c u others passed here fit none size ok =
    let n = length u.old in
    let m = length (old_values others) in
    let l0 = length-append here (zeros n) in
    let l1 = length-append passed u.old in
    let l2 : length (zeros n) ≡ n = length-replicate n (pos 0) in (
      here ++ zeros n,
      zeros m,
      ap (λ k. here ++ zeros k) (length-append u.old (old_values others)) ∙ ap (λ l. here ++ l) (zeros_join n m) ∙ sym (append_assoc here (zeros n) (zeros m)),
      omega (arith, l0, l1, l2, size),
      subst (λ b. are_in_bounds c.bounds b (here ++ zeros n) ≡ true) (sym none) (bounds_join c here (zeros n) ok (fit false n)),
      zeros_within c others fit,
    )

-- of several units, where no DC is next
no_dc_within : (c : Coding) (units left : List UnitLeft) (here : List ℤ) → ZerosFit c → NoDc units → length here + length (old_values left) ≡ length (old_values units) → are_in_bounds c.bounds false here ≡ true
    → AreWithin c units (here ++ zeros (length (old_values left)))
no_dc_within c units left here fit n all ok =
    let m = length (old_values left) in
    let l0 = length-append here (zeros m) in
    let l1 : length (zeros m) ≡ m = length-replicate m (pos 0) in
    flat_within c units (here ++ zeros m) n (omega (arith, l0, l1, all)) (bounds_join c here (zeros m) ok (fit false m))

none_within : (c : Coding) (units : List UnitLeft) (u : UnitLeft) (others : List UnitLeft) (here : List ℤ) → ZerosFit c → units ≡ u ∷ others → here ≡ [] → AreWithin c units (here ++ zeros (length (old_values (u ∷ others))))
none_within c units u others here fit e none =
    subst (λ l. AreWithin c l (here ++ zeros (length (old_values (u ∷ others))))) (sym e)
    (subst (λ l. AreWithin c (u ∷ others) (l ++ zeros (length (old_values (u ∷ others))))) (sym none) (zeros_within c (u ∷ others) fit))

passed_within : (c : Coding) (units : List UnitLeft) (u : UnitLeft) (others : List UnitLeft) (passed here : List ℤ) → ZerosFit c → units ≡ with_passed u passed ∷ others → u.has_dc ≡ false → length here ≡ length passed → are_in_bounds c.bounds false here ≡ true
    → AreWithin c units (here ++ zeros (length (old_values (u ∷ others))))
passed_within c units u others passed here fit e none size ok =
    subst (λ l. AreWithin c l (here ++ zeros (length (old_values (u ∷ others))))) (sym e) (first_within c u others passed here fit none size ok)

no_units : (xs : List UnitLeft) → length xs ≡ 0 → xs ≡ []
no_units [] e = refl
no_units (x ∷ xs) e = absurd (omega (arith, e))

-- where EOBs end one band each, or only DC values are encoded
part_rest : (c : Coding) (s : Standing) (u : UnitLeft) (others : List UnitLeft) (here : List ℤ) (bits : List Bool) → ZerosFit c → (c.most_run ≡ 0) ⊎ DcAlone s.left → PartOfElement c s u others here bits → are_in_bounds c.bounds false here ≡ true
    → AreWithin c s.left (here ++ zeros (length (old_values (u ∷ others))))
part_rest c s u others here bits fit m (in_code h) ok = none_within c s.left u others here fit h.left h.none
part_rest c s u others here bits fit m (in_difference size extra h few) ok = none_within c s.left u others here fit h.left h.none
part_rest c s u others here bits fit m (in_number run size extra h few) ok = none_within c s.left u others here fit h.left h.none
part_rest c s u others here bits fit m (in_count n extra h few) ok = none_within c s.left u others here fit h.left h.none
part_rest c s u others here bits fit m (in_value run v h due) ok =
    passed_within c s.left u others h.passed here fit h.left h.no_dc (ap length h.told ∙ length_corrected c.al h.passed h.corrections) ok
part_rest c s u others here bits fit m (in_long run h due) ok =
    passed_within c s.left u others h.passed here fit h.left h.no_dc (ap length h.told ∙ length_corrected c.al h.passed h.corrections) ok
part_rest c s u others here bits fit (inl run) (in_ends bands h due) ok =
    let d = h.most in
    let n = h.sum in
    let a = h.some in
    let one = one_band h.total (omega (arith, n, a)) (omega (arith, d, run)) in
    let none = no_units h.whole (omega (arith, n, a, one)) in
    let left : s.left ≡ with_passed u h.first ∷ others = h.left ∙ ap (λ us. us ++ with_passed u h.first ∷ others) none in
    let same = (head_inj h.unit (with_passed u h.first) h.units others (sym h.begun ∙ left)).0 in
    let dc : u.has_dc ≡ false = sym (ap (λ (x : UnitLeft). x.has_dc) same) ∙ h.no_dc in
    let told : here ≡ corrected c.al h.first h.corrections = h.told ∙ ap (λ us. corrected c.al (old_values us ++ h.first) h.corrections) none in
    passed_within c s.left u others h.first here fit left dc (ap length told ∙ length_corrected c.al h.first h.corrections) ok
part_rest c s u others here bits fit (inr d) (in_ends bands h due) ok =
    absurd (clash (h.unit).has_dc (subst (λ us. DcAlone us) h.begun d).0 h.no_dc)

part_within : (c : Coding) (s : Standing) (u : UnitLeft) (others : List UnitLeft) (here : List ℤ) (bits : List Bool) → ZerosFit c → IsMode c s.left → PartOfElement c s u others here bits → are_in_bounds c.bounds false here ≡ true
    → AreWithin c s.left (here ++ zeros (length (old_values (u ∷ others))))
part_within c s u others here bits fit (inl m) p ok = part_rest c s u others here bits fit (inl m) p ok
part_within c s u others here bits fit (inr (inl n)) p ok = no_dc_within c s.left (u ∷ others) here fit n (part_all c s u others here bits p) ok
part_within c s u others here bits fit (inr (inr d)) p ok = part_rest c s u others here bits fit (inr d) p ok

pub stands_within : (c : Coding) (units : List UnitLeft) (told : List ℤ) (left : List UnitLeft) (bits : List Bool) → ZerosFit c → IsMode c units → StandsInUnits c units told left bits
    → AreWithin c units (told ++ zeros (length (old_values left)))
stands_within c units told left bits fit mode w =
    let n = length (old_values (w.unit ∷ w.others)) in
    let m = covers_mode c (at_start units) w.standing w.elements w.before w.front mode w.covers in
    let p = part_within c w.standing w.unit w.others w.here w.part fit m w.is_part w.in_bounds in
    let all = covers_within c (at_start units) w.standing w.elements w.before (w.here ++ zeros n) w.front mode w.covers p in
    subst (λ us. AreWithin c units (told ++ zeros (length (old_values us)))) (sym w.first)
    (subst (λ l. AreWithin c units (l ++ zeros n)) (sym w.same) (subst (λ l. AreWithin c units l) (sym (append_assoc w.before w.here (zeros n))) all))

-- THE PLACES of the units that are complete
front_within : (s : Scan) (before after : Blocks) (whole due : List Place) (rest : List ℤ) → ((i x y : ℕ) → length (before i x y) ≡ length (after i x y))
    → AreWithin s.coding (map (unit_at s before) (whole ++ due)) (flat_map (band_of s after) whole ++ rest) → PlacesWithin s after whole
front_within s before after [] due rest sizes w = tt
front_within s before after (p ∷ whole) due rest sizes w =
    let l = w.3 in
    let k = length_band s (block_at before p) (block_at after p) (sizes p.component p.x p.y) in
    let split : band_of s after p ++ (flat_map (band_of s after) whole ++ rest) ≡ w.0 ++ w.1 = sym (append_assoc (band_of s after p) (flat_map (band_of s after) whole) rest) ∙ w.2 in
    let r = append_apart (band_of s after p) w.0 (flat_map (band_of s after) whole ++ rest) w.1 (sym (l ∙ k)) split in
    (subst (λ b. are_in_bounds s.coding.bounds (s.ss == 0) b ≡ true) (sym r.0) w.4, front_within s before after whole due rest sizes (subst (λ t. AreWithin s.coding (map (unit_at s before) (whole ++ due)) t) (sym r.1) w.5))

-- WHAT CHANGED is in the bounds

abbrev pub InBounds : Frame → Blocks → Type 0
InBounds f blocks = (i x y k : ℕ) → is_coefficient (bounds f) k (coefficient blocks i x y k) ≡ true

zeros_in : (precision : ℕ) (b : Bool) (n : ℕ) → are_in_bounds (bounds_of precision) b (zeros n) ≡ true
zeros_in precision b zero = refl
zeros_in precision true (suc n) = of_bounds (λ c. are_in_bounds c true (zeros (suc n)) ≡ true) (zeros_in 8 false n) (zeros_in 12 false n) precision
zeros_in precision false (suc n) = of_bounds (λ c. are_in_bounds c false (zeros (suc n)) ≡ true) (zeros_in 8 false n) (zeros_in 12 false n) precision

module _ (limits : Limits) (items : List Item) (contents : List ℕ) where
  abbrev f : Frame
  f = frame_of limits (segments_of items)

  zeros_fit : ZerosFit (scan_after limits (segments_of items) contents).coding
  zeros_fit = zeros_in f.precision

  changed_in_range : (places : List Place) (old new : Blocks)
      → OnlyChanges (scan_after limits (segments_of items) contents) places old new → PlacesWithin (scan_after limits (segments_of items) contents) new places → InBounds f old → InBounds f new
  changed_in_range places old new w within before i x y k = by (any_of (is_at i x y) places) refl
    where
      s : Scan
      s = scan_after limits (segments_of items) contents

      size : length (new i x y) ≡ 64
      size = w.sizes i x y

      named : any_of (is_at i x y) places ≡ true → s.ss ≤ k → k ≤ s.se → k < 64 → is_coefficient (bounds f) k (coefficient new i x y k) ≡ true
      named at low high small =
          let here = at_place (scan_after limits (segments_of items) contents) new places i x y within at in
          let d = length-drop s.ss (new i x y) in
          let long = length-take (s.se + 1 - s.ss) (drop s.ss (new i x y)) in
          let inside : k - s.ss < length (band s (new i x y)) = omega (arith, d, long, size, low, high, small) in
          let v = value_in s.coding (s.ss == 0) (band s (new i x y)) (k - s.ss) k here inside (λ e. (let z : s.ss ≡ 0 = same_of s.ss 0 e in omega (arith, z))) (λ e. positive s.ss k e low) in
          subst (λ v. is_coefficient (bounds f) k v ≡ true) (in_band s (new i x y) k low high) v
        where
          positive : (ss k : ℕ) → (ss == 0) ≡ false → ss ≤ k → 1 ≤ k
          positive ss k e h = grind (arith, nat_tests, e, h)

      banded : any_of (is_at i x y) places ≡ true → (b : Bool) → is_in_band (scan_after limits (segments_of items) contents) k ≡ b → is_coefficient (bounds f) k (coefficient new i x y k) ≡ true
      banded at false e = subst (λ v. is_coefficient (bounds f) k v ≡ true) (sym (w.outside i x y k e)) (before i x y k)
      banded at true e =
          let u = both (nat_le s.ss k) (nat_le k s.se) e in
          ⊎_elim (λ (small : k < 64). named at (le_of s.ss k u.0) (le_of k s.se u.1) small)
          (λ (large : 64 ≤ k). subst (λ v. is_coefficient (bounds f) k v ≡ true) (sym (get_or_past (new i x y) k (pos 0) (omega (arith, size, large)))) (zero_in f.precision k)) (cases_lt k 64)

      by : (b : Bool) → any_of (is_at i x y) places ≡ b → is_coefficient (bounds f) k (coefficient new i x y k) ≡ true
      by false e = subst (λ l. is_coefficient (bounds f) k (get_or l k (pos 0)) ≡ true) (sym (w.elsewhere i x y e)) (before i x y k)
      by true e = banded e (is_in_band (scan_after limits (segments_of items) contents) k) refl

  so_far_in_range : (before work : Blocks) (done : List (List ℕ)) (left : List (List Place)) → Leads limits items before → contents_rule limits (segments_of items) 0xda contents ≡ None
      → ScanSoFar (scan_after limits (segments_of items) contents) before work done left → InBounds f work
  so_far_in_range before work done left l rule w =
      let s = scan_after limits (segments_of items) contents in
      let sizes : (i x y : ℕ) → length (before i x y) ≡ length (work i x y) = λ i x y. leads_sizes limits items before l i x y ∙ sym ((w.changes).sizes i x y) in
      let within = intervals_within s before work w.front done sizes (λ places. scan_mode limits items before contents places l rule) w.spelled in
      changed_in_range (joined w.front) before work w.changes within (leads_in_range limits items before l).values

  pub in_part_in_range : (before after : Blocks) (done : List (List ℕ)) (coded : List ℕ) (places : List Place) (later : List (List Place)) → Leads limits items before
      → contents_rule limits (segments_of items) 0xda contents ≡ None → ScanInPart (scan_after limits (segments_of items) contents) before done coded places later after → InBounds f after × ((i x y : ℕ) → length (after i x y) ≡ 64)
  in_part_in_range before after done coded places later l rule (inr w) =
      (so_far_in_range before after (done ++ coded ∷ []) later l rule w, (w.changes).sizes)
  in_part_in_range before after done coded places later l rule (inl w) =
      let s = scan_after limits (segments_of items) contents in
      let c = s.coding in
      let sizes : (i x y : ℕ) → length (before i x y) ≡ length (after i x y) = λ i x y. leads_sizes limits items before l i x y ∙ sym (((w.read).changes).sizes i x y) in
      let mode = scan_mode limits items before contents places l rule in
      let more = zeros (length (old_values w.left)) in
      let all = stands_within c (map (unit_at s before) places) (w.told ++ w.part) w.left (bits_of_bytes coded) (zeros_fit) mode w.stands in
      let cut = subst (λ t. AreWithin c (map (unit_at s before) places) t) (append_assoc w.told w.part more) all in
      let told = subst (λ t. AreWithin c (map (unit_at s before) places) (t ++ (w.part ++ more))) (w.read).told_there cut in
      let here = subst (λ ps. AreWithin c (map (unit_at s before) ps) (flat_map (band_of s after) w.whole ++ (w.part ++ more))) w.all told in
      let within = front_within s before after w.whole w.due (w.part ++ more) sizes here in
      (changed_in_range w.whole w.work after (w.read).changes within (so_far_in_range before w.work done (places ∷ later) l rule w.so_far), ((w.read).changes).sizes)

-- THE LAW
after_in_range : (limits : Limits) (bytes : List ℕ) (M : Meaning) → EndsAfter limits bytes M → AreInRange (bounds (picture_frame M)) M.blocks
after_in_range limits bytes M p =
    subst (λ (N : Meaning). AreInRange (bounds (picture_frame N)) N.blocks) (sym p.meaning)
    (real_in_range (frame_of limits (segments_of p.items)) (p.behind).blocks (leads_in_range limits p.items (p.behind).blocks (p.behind).leads))

inside_in_range : (limits : Limits) (bytes : List ℕ) (M : Meaning) → EndsInside limits bytes M → AreInRange (bounds (picture_frame M)) M.blocks
inside_in_range limits bytes M p =
    let i = p.at in
    let r = in_part_in_range limits i.items i.contents i.blocks p.after i.done i.coded i.places i.later i.leads i.allowed.1 p.scan in
    subst (λ (N : Meaning). AreInRange (bounds (picture_frame N)) N.blocks) (sym p.meaning)
    (real_in_range (frame_of limits (segments_with i.items i.contents)) p.after (record { sizes = r.1; values = r.0 }))

pub early_in_range : (limits : Limits) (bytes : List ℕ) (M : Meaning) → MeansEarly limits bytes M → AreInRange (bounds (picture_frame M)) M.blocks
early_in_range limits bytes M (e, inl p) = after_in_range limits bytes M p
early_in_range limits bytes M (e, inr p) = inside_in_range limits bytes M p

pub meaning_in_range : (limits : Limits) (bytes : List ℕ) (M : Meaning) → IsMeaning limits bytes M → AreInRange (bounds (picture_frame M)) M.blocks
meaning_in_range limits bytes M (inl w) = means_in_range limits bytes M w
meaning_in_range limits bytes M (inr w) = early_in_range limits bytes M w
