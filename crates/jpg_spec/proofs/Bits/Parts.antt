-- A part of an element is a proper prefix of one, or of a code and a number after it.
use Rattle.std.proofs.Common.{◌≡◌, ℕ, zero, suc, ◌+◌, ◌-◌, ◌*◌, ◌<◌, ◌≤◌, Bool, true, false, cond, List, [], ◌∷◌, ◌++◌, length, take, drop, refl, sym, ap, ◌∙◌, subst, arith, inl, inr, ℤ, pos}
use Rattle.std.specs.Prelude.{◌⊎◌, replicate, ◌+ℤ◌, nat_lt}
use Rattle.std.specs.List.{Contains}
use Rattle.std.proofs.lemmas.Grind.{flat_map-append}
use Rattle.std.proofs.Math.Seq.{take-append-add, drop-append-add}
use Rattle.std.proofs.lemmas.List.{append_assoc, length-append, length-replicate, take-append-drop, length-take-le, length-drop}
use Rattle.jpg_spec.specs.Bits.{bits_of}
use Rattle.jpg_spec.specs.Codes.{Code}
use Rattle.jpg_spec.specs.Numbers.{category, extra_bits, digits}
use Rattle.jpg_spec.specs.Elements.{Coding, UnitLeft, Standing, Element, difference, value, long_run, ends, Tells, SpellsElement, codes_due, is_zero, zeros_in, nonzeros_in, old_values, scaled, corrected, going_on}
use Rattle.jpg_spec.proofs.Bits.ElementsEncoded.{before_zero, after_zero, at_zero}
use Rattle.jpg_spec.specs.Parts.{BeginsCode, IsFront, InCode, InDifference, InNumber, InCount, InValue, InLong, InEnds, WantsCorrection, PartOfElement, in_code, in_difference, in_number, in_count, in_value, in_long, in_ends}
use Rattle.jpg_spec.proofs.Basics.Facts.{facts}
use Rattle.jpg_spec.proofs.Bits.ExtraBits.{number_of_bits, value_of_bits}
use Rattle.jpg_spec.proofs.Segments.MarkersOnce.{no_head}
use Rattle.jpg_spec.proofs.Bits.Values.{nonzeros-append}
use Rattle.jpg_spec.proofs.Basics.Common.{lt_of, not_lt_of, clash}

-- some of the bits of an element that is allowed there
abbrev pub BeginsWhole : Coding → Standing → UnitLeft → List UnitLeft → List Bool → Type 0
BeginsWhole c s u units part =
    (e : Element) × (here : List ℤ) × (left : List UnitLeft) × (next : Bool) × (more : List Bool)
    × SpellsElement (codes_due c u) e (part ++ next ∷ more) × Tells c (s.predictions u.component) e u units here left

-- some of the bits of a code of EOBn and n bits
abbrev pub BeginsCount : Coding → UnitLeft → List Bool → Type 0
BeginsCount c u part =
    (n : ℕ) × (x : ℕ) × (code : List Bool) × (next : Bool) × (more : List Bool)
    × Contains (codes_due c u) (code, 16 * n) × (u.has_dc ≡ false) × (n ≤ c.most_run) × (part ++ next ∷ more ≡ code ++ bits_of n x)

-- Nothing; some of the bits of a code; some of those of an element that is allowed there; or a code of EOBn and fewer
-- than n bits after it.
abbrev pub IsProperFront : Coding → Standing → UnitLeft → List UnitLeft → List Bool → Type 0
IsProperFront c s u units part =
    (part ≡ []) ⊎ ((((u.has_dc ≡ true) × (c.refines ≡ true) → ⊥) × BeginsCode (codes_due c u) part) ⊎ (BeginsWhole c s u units part ⊎ BeginsCount c u part))

-- BITS THAT FOLLOW, of any kind, up to some length

-- some bits after these, up to n
record FilledUp (got : List Bool) (n : ℕ) : Type 0 where
  next : Bool
  more : List Bool
  all : length (got ++ next ∷ more) ≡ n

filled_up : (got : List Bool) (n : ℕ) → length got < n → FilledUp got n
filled_up got n few =
    let k = n - length got - 1 in
    let l = length-append got (true ∷ replicate k true) in
    let r = length-replicate k true in
    record { next = true; more = replicate k true; all = omega (arith, l, r, few) }

-- bits of a length, split in two
cut_bits : (bits : List Bool) (m n : ℕ) → length bits ≡ m + n → (a : List Bool) × (b : List Bool) × (bits ≡ a ++ b) × (length a ≡ m) × (length b ≡ n)
cut_bits bits m n e =
    let l = length-drop m bits in
    (take m bits, drop m bits, sym (take-append-drop m bits), length-take-le m bits (omega (arith, e)), omega (arith, l, e))

-- what follows a code
after_code : (code got more : List Bool) (next : Bool) → (code ++ got) ++ next ∷ more ≡ code ++ (got ++ next ∷ more)
after_code code got more next = append_assoc code got (next ∷ more)

-- the codes that are expected
pub dc_due : (c : Coding) (u : UnitLeft) → u.has_dc ≡ true → codes_due c u ≡ c.dc u.component
dc_due c u h = ap (λ b. cond b (c.dc u.component) (c.ac u.component)) h

pub ac_due : (c : Coding) (u : UnitLeft) → u.has_dc ≡ false → codes_due c u ≡ c.ac u.component
ac_due c u h = ap (λ b. cond b (c.dc u.component) (c.ac u.component)) h

pub in_dc : (c : Coding) (u : UnitLeft) (code : Code) → u.has_dc ≡ true → Contains (c.dc u.component) code → Contains (codes_due c u) code
in_dc c u code h k = subst (λ t. Contains t code) (sym (dc_due c u h)) k

pub in_ac : (c : Coding) (u : UnitLeft) (code : Code) → u.has_dc ≡ false → Contains (c.ac u.component) code → Contains (codes_due c u) code
in_ac c u code h k = subst (λ t. Contains t code) (sym (ac_due c u h)) k

-- THE PARTS

module _ (c : Coding) (s : Standing) (u : UnitLeft) (units : List UnitLeft) where
  -- a difference's code, and fewer than size bits
  front_of_difference : (code got : List Bool) (size : ℕ) (o : ℤ) (old : List ℤ) → u.has_dc ≡ true → c.refines ≡ false → u.old ≡ o ∷ old
      → Contains (codes_due c u) (code, size) → size ≤ c.bounds.dc_cat → length got < size → IsProperFront c s u units (code ++ got)
  front_of_difference code got size o old dc first left h most few =
      let f = filled_up got size few in
      let all = f.all in
      let v = value_of_bits (got ++ f.next ∷ f.more) (omega (arith, all, few)) in
      let cat : category v.0 ≡ size = v.1 ∙ all in
      inr (inr (inl (
        difference v.0,
        scaled c.al (s.predictions u.component +ℤ v.0) ∷ [],
        going_on u old units,
        f.next,
        f.more,
        (code, subst (λ n. Contains (codes_due c u) (code, n)) (sym cat) h, after_code code got f.more f.next ∙ ap (λ l. code ++ l) (sym v.2)),
        (o, old, dc, first, subst (λ n. n ≤ c.bounds.dc_cat) (sym cat) most, left, refl, refl),
      )))

  -- the code of a value after a run, and fewer bits than its extra bits and the corrections of what it skips
  front_of_value : (code got : List Bool) (run size : ℕ) (passed old : List ℤ) → u.has_dc ≡ false
      → Contains (codes_due c u) (code, 16 * run + size) → 1 ≤ size → size ≤ c.most_category → run ≤ 15 → u.old ≡ passed ++ pos 0 ∷ old → zeros_in passed ≡ run → length got < size + nonzeros_in passed
      → IsProperFront c s u units (code ++ got)
  front_of_value code got run size passed old dc h low high short left zeros few =
      let f = filled_up got (size + nonzeros_in passed) few in
      let q = cut_bits (got ++ f.next ∷ f.more) size (nonzeros_in passed) f.all in
      let v = value_of_bits q.0 (subst (λ n. 1 ≤ n) (sym q.3) low) in
      let cat : category v.0 ≡ size = v.1 ∙ q.3 in
      inr (inr (inl (
        value run v.0 q.1,
        corrected c.al passed q.1 ++ scaled c.al v.0 ∷ [],
        going_on u old units,
        f.next,
        f.more,
        (code, subst (λ n. Contains (codes_due c u) (code, 16 * run + n)) (sym cat) h, after_code code got f.more f.next ∙ ap (λ l. code ++ l) (q.2 ∙ ap (λ l. l ++ q.1) (sym v.2))),
        (passed, old, dc, subst (λ n. 1 ≤ n) (sym cat) low, subst (λ n. n ≤ c.most_category) (sym cat) high, short, left, zeros, sym q.4, refl, refl),
      )))

  -- ZRL, and fewer corrections than it skips values
  front_of_long_run : (code got : List Bool) (passed old : List ℤ) → u.has_dc ≡ false → Contains (codes_due c u) (code, 0xf0)
      → ((front : List ℤ) × (u.old ≡ front ++ pos 0 ∷ old) × (zeros_in front ≡ 15) × (passed ≡ front ++ pos 0 ∷ [])) ⊎ ((u.old ≡ passed) × (zeros_in passed < 16) × (old ≡ []))
      → length got < nonzeros_in passed → IsProperFront c s u units (code ++ got)
  front_of_long_run code got passed old dc h passes few =
      let f = filled_up got (nonzeros_in passed) few in
      inr (inr (inl (
        long_run (got ++ f.next ∷ f.more),
        corrected c.al passed (got ++ f.next ∷ f.more),
        going_on u old units,
        f.next,
        f.more,
        (code, h, after_code code got f.more f.next),
        (passed, old, dc, passes, sym f.all, refl, refl),
      )))

  -- EOBn, and fewer than n bits
  front_of_count : (code got : List Bool) (n : ℕ) → u.has_dc ≡ false → Contains (codes_due c u) (code, 16 * n) → n ≤ c.most_run → length got < n
      → IsProperFront c s u units (code ++ got)
  front_of_count code got n dc h most few =
      let f = filled_up got n few in
      let x = number_of_bits (got ++ f.next ∷ f.more) in
      inr (inr (inr (n, x.0, code, f.next, f.more, h, dc, most, after_code code got f.more f.next ∙ ap (λ l. code ++ l) (sym x.2 ∙ ap (λ k. bits_of k x.0) f.all))))

  -- EOBn with its n bits, and fewer corrections than the bands have values for
  front_of_ends : (code got : List Bool) (total : ℕ) → u.has_dc ≡ false → Contains (codes_due c u) (code, 16 * (digits total - 1)) → 1 ≤ total
      → digits total ≤ c.most_run + 1 → total ≤ 1 + length units → length got < nonzeros_in (old_values (take total (u ∷ units))) → IsProperFront c s u units (code ++ (bits_of (digits total - 1) total ++ got))
  front_of_ends code got total dc h some most fits few =
      let passed = old_values (take total (u ∷ units)) in
      let number = bits_of (digits total - 1) total in
      let f = filled_up got (nonzeros_in passed) few in
      inr (inr (inl (
        ends total (got ++ f.next ∷ f.more),
        corrected c.al passed (got ++ f.next ∷ f.more),
        drop total (u ∷ units),
        f.next,
        f.more,
        (code, h, after_code code (number ++ got) f.more f.next ∙ ap (λ l. code ++ l) (append_assoc number got (f.next ∷ f.more))),
        (dc, some, most, fits, sym f.all, refl, refl),
      )))

-- A CORRECTION FOLLOWS

pub some_old : (o : ℤ) (old : List ℤ) → is_zero o ≡ false → 1 ≤ nonzeros_in (o ∷ old)
some_old o old z = let e : nonzeros_in (o ∷ old) ≡ 1 + nonzeros_in old = ap (λ b. cond b 0 1 + nonzeros_in old) z in omega (arith, e)

wants_old : (u : UnitLeft) → WantsCorrection u → 1 ≤ nonzeros_in u.old
wants_old u w = subst (λ l. 1 ≤ nonzeros_in l) (sym w.2) (some_old w.0 w.1 w.3)

pub same_head : (x y : ℤ) (xs ys : List ℤ) → x ∷ xs ≡ y ∷ ys → x ≡ y
same_head x y xs ys e = cc

-- it comes before the next zero
old_before : (u : UnitLeft) (passed behind : List ℤ) → WantsCorrection u → u.old ≡ passed ++ pos 0 ∷ behind → 1 ≤ nonzeros_in passed
old_before u [] behind w e = absurd (clash (is_zero w.0) (ap is_zero (same_head w.0 (pos 0) w.1 behind (sym w.2 ∙ e))) w.3)
old_before u (p ∷ passed) behind w e = some_old p passed (ap is_zero (same_head p w.0 (passed ++ pos 0 ∷ behind) w.1 (sym e ∙ w.2)) ∙ w.3)

zeros-join : (a b : List ℤ) → zeros_in (a ++ b) ≡ zeros_in a + zeros_in b
zeros-join [] b = omega arith
zeros-join (o ∷ a) b = omega (arith, zeros-join a b)

-- what was skipped, and what is skipped up to a later zero
passed_to : (passed old before behind : List ℤ) → old ≡ before ++ pos 0 ∷ behind → passed ++ old ≡ (passed ++ before) ++ pos 0 ∷ behind
passed_to passed old before behind e = ap (λ l. passed ++ l) e ∙ sym (append_assoc passed before (pos 0 ∷ behind))

-- some of the values that the bands have left
bands_old : (bands : ℕ) (u : UnitLeft) (others : List UnitLeft) (first : List ℤ) → 1 ≤ bands → WantsCorrection u
    → (let w : UnitLeft = record u { old = first ++ u.old } in nonzeros_in first + 1 ≤ nonzeros_in (old_values (take bands (w ∷ others))))
bands_old zero u others first some due = absurd (omega (arith, some))
bands_old (suc n) u others first some due =
    omega (arith, nonzeros-append (first ++ u.old) (old_values (take n others)), nonzeros-append first u.old, wants_old u due)

code_front : (c : Coding) (s : Standing) (u : UnitLeft) (others : List UnitLeft) (here : List ℤ) (bits : List Bool) → InCode c s u others here bits → IsProperFront c s u others bits
code_front c s u others here [] h = inl refl
code_front c s u others here (b ∷ bits) h = by h.front
  where
    by : IsFront (codes_due c u) (b ∷ bits) → IsProperFront c s u others (b ∷ bits)
    by (inl e) = absurd (no_head b bits (sym e))
    by (inr k) = inr (inl (λ d. no_head b bits (sym (h.no_code d.0 d.1)), k))

-- THE PARTS at a unit
module _ (c : Coding) (s : Standing) (u : UnitLeft) (others : List UnitLeft) (here : List ℤ) (bits : List Bool) where
  value_front : (run : ℕ) (v : ℤ) → (h : InValue c s u others here bits run v) → WantsCorrection u
      → (let w : UnitLeft = record u { old = h.passed ++ u.old } in IsProperFront c s w others bits)
  value_front run v h due =
      let w : UnitLeft = record u { old = h.passed ++ u.old } in
      let z = at_zero run u.old h.room in
      let before = before_zero run u.old in
      let n = old_before u before (after_zero run u.old) due z.0 in
      let l : length (extra_bits v ++ h.corrections) < category v + nonzeros_in (h.passed ++ before) =
      omega (arith, length-append (extra_bits v) h.corrections, facts.size v, h.each, nonzeros-append h.passed before, n) in
      subst (λ b. IsProperFront c s w others b) (sym h.split) (
      front_of_value c s w others h.code (extra_bits v ++ h.corrections) h.zeros (category v) (h.passed ++ before) (after_zero run u.old) h.no_dc (in_ac c u (h.code, 16 * h.zeros + category v) h.no_dc h.coded)
      h.some h.most h.short (passed_to h.passed u.old before (after_zero run u.old) z.0) (omega (arith, zeros-join h.passed before, z.1, h.sum)) l
      )

  long_front : (run : ℕ) → (h : InLong c s u others here bits run) → WantsCorrection u
      → (let w : UnitLeft = record u { old = h.passed ++ u.old } in IsProperFront c s w others bits)
  long_front run h due = subst (λ b. IsProperFront c s w others b) (sym h.split) (by (nat_lt run (zeros_in u.old)) refl)
    where
      w : UnitLeft
      w = record u { old = h.passed ++ u.old }

      coded : Contains (codes_due c w) (h.code, 0xf0)
      coded = in_ac c u (h.code, 0xf0) h.no_dc h.coded

      by : (few : Bool) → nat_lt run (zeros_in u.old) ≡ few → IsProperFront c s w others (h.code ++ h.corrections)
      by true e =
          let z = at_zero run u.old (lt_of run (zeros_in u.old) e) in
          let before = before_zero run u.old in
          let n = old_before u before (after_zero run u.old) due z.0 in
          front_of_long_run c s w others h.code h.corrections ((h.passed ++ before) ++ pos 0 ∷ []) (after_zero run u.old) h.no_dc coded
          (inl (h.passed ++ before, passed_to h.passed u.old before (after_zero run u.old) z.0, omega (arith, zeros-join h.passed before, z.1, h.sum), refl))
          (omega (arith, nonzeros-append (h.passed ++ before) (pos 0 ∷ []), nonzeros-append h.passed before, n, h.each))
      by false e =
          let few = not_lt_of run (zeros_in u.old) e in
          front_of_long_run c s w others h.code h.corrections (h.passed ++ u.old) [] h.no_dc coded
          (inr (refl, omega (arith, zeros-join h.passed u.old, few, h.sum), refl))
          (omega (arith, nonzeros-append h.passed u.old, wants_old u due, h.each))

  -- the units that end are those that are passed, the one that is passed in part, and the next ones
  pub ends_are : (bands : ℕ) → (h : InEnds c s u others here bits bands)
      → (let w : UnitLeft = record u { old = h.first ++ u.old } in (take h.total (h.unit ∷ h.units) ≡ h.whole ++ take bands (w ∷ others)) × (drop h.total (h.unit ∷ h.units) ≡ drop bands (w ∷ others)))
  ends_are bands h =
      let w : UnitLeft = record u { old = h.first ++ u.old } in
      let e : h.unit ∷ h.units ≡ h.whole ++ w ∷ others = sym h.begun ∙ h.left in (
        ap (λ us. take h.total us) e ∙ ap (λ n. take n (h.whole ++ w ∷ others)) h.sum ∙ take-append-add h.whole (w ∷ others) bands,
        ap (λ us. drop h.total us) e ∙ ap (λ n. drop n (h.whole ++ w ∷ others)) h.sum ∙ drop-append-add h.whole (w ∷ others) bands,
      )

  pub ends_fit : (bands : ℕ) → (h : InEnds c s u others here bits bands) → h.total ≤ 1 + length h.units
  ends_fit bands h =
      let w : UnitLeft = record u { old = h.first ++ u.old } in
      omega (arith, ap length (sym h.begun ∙ h.left), length-append h.whole (w ∷ others), h.sum, h.fits)

  ends_front : (bands : ℕ) → (h : InEnds c s u others here bits bands) → WantsCorrection u
      → IsProperFront c s h.unit h.units bits
  ends_front bands h due =
      let w : UnitLeft = record u { old = h.first ++ u.old } in
      let all : nonzeros_in (old_values (take h.total (h.unit ∷ h.units))) ≡ nonzeros_in (old_values h.whole) + nonzeros_in (old_values (take bands (w ∷ others))) =
      ap (λ us. nonzeros_in (old_values us)) (ends_are bands h).0
      ∙ ap nonzeros_in (flat_map-append (λ (v : UnitLeft). v.old) h.whole (take bands (w ∷ others)))
      ∙ nonzeros-append (old_values h.whole) (old_values (take bands (w ∷ others))) in
      subst (λ b. IsProperFront c s h.unit h.units b) (sym h.split) (
      front_of_ends c s h.unit h.units h.code h.corrections h.total h.no_dc (in_ac c h.unit (h.code, 16 * (digits h.total - 1)) h.no_dc h.coded) (omega (arith, h.sum, h.some)) h.most
      (ends_fit bands h) (omega (arith, all, h.each, nonzeros-append (old_values h.whole) h.first, bands_old bands u others h.first h.some due))
      )

  difference_front : (size : ℕ) (extra : List Bool) → InDifference c s u others here bits size extra → length extra < size
      → IsProperFront c s u others bits
  difference_front size extra h few = by u.old refl
    where
      by : (old : List ℤ) → u.old ≡ old → IsProperFront c s u others bits
      by [] e = absurd (omega (arith, h.some, ap length e))
      by (o ∷ old) e =
          subst (λ b. IsProperFront c s u others b) (sym h.split) (front_of_difference c s u others h.code extra size o old h.has_dc h.first e (in_dc c u (h.code, size) h.has_dc h.coded) h.most few)

  number_front : (run size : ℕ) (extra : List Bool) → InNumber c s u others here bits run size extra → length extra < size
      → IsProperFront c s u others bits
  number_front run size extra h few =
      let z = at_zero run u.old h.room in
      subst (λ b. IsProperFront c s u others b) (sym h.split) (
      front_of_value c s u others h.code extra run size (before_zero run u.old) (after_zero run u.old) h.no_dc (in_ac c u (h.code, 16 * run + size) h.no_dc h.coded) h.some h.most h.short z.0 z.1 (omega (arith, few))
      )

  count_front : (n : ℕ) (extra : List Bool) → InCount c s u others here bits n extra → length extra < n
      → IsProperFront c s u others bits
  count_front n extra h few =
      subst (λ b. IsProperFront c s u others b) (sym h.split) (front_of_count c s u others h.code extra n h.no_dc (in_ac c u (h.code, 16 * n) h.no_dc h.coded) h.most few)

-- THE LAW: a part of an element is a proper prefix, at the state before its first unit
pub record FrontAt (c : Coding) (s : Standing) (bits : List Bool) : Type 0 where
  pub unit : UnitLeft
  pub units : List UnitLeft
  pub left : s.left ≡ unit ∷ units
  pub is_front : IsProperFront c s unit units bits

pub part_front : (c : Coding) (s : Standing) (u : UnitLeft) (others : List UnitLeft) (here : List ℤ) (bits : List Bool) → PartOfElement c s u others here bits → FrontAt c s bits
part_front c s u others here bits (in_code h) = record { unit = u; units = others; left = h.left; is_front = code_front c s u others here bits h }
part_front c s u others here bits (in_difference size extra h few) = record { unit = u; units = others; left = h.left; is_front = difference_front c s u others here bits size extra h few }
part_front c s u others here bits (in_number run size extra h few) = record { unit = u; units = others; left = h.left; is_front = number_front c s u others here bits run size extra h few }
part_front c s u others here bits (in_count n extra h few) = record { unit = u; units = others; left = h.left; is_front = count_front c s u others here bits n extra h few }
part_front c s u others here bits (in_value run v h due) = record { unit = record u { old = h.passed ++ u.old }; units = others; left = h.left; is_front = value_front c s u others here bits run v h due }
part_front c s u others here bits (in_long run h due) = record { unit = record u { old = h.passed ++ u.old }; units = others; left = h.left; is_front = long_front c s u others here bits run h due }
part_front c s u others here bits (in_ends bands h due) = record { unit = h.unit; units = h.units; left = h.begun; is_front = ends_front c s u others here bits bands h due }
