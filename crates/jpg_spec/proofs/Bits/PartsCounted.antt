-- What complete elements and a part of one more encoded, and what they leave, are all values of the units.
use Rattle.std.proofs.Common.{◌≡◌, ◌+◌, ◌<◌, Bool, List, [], ◌∷◌, ◌++◌, length, take, drop, ap, ◌∙◌, arith, inl, inr, ℤ, pos}
use Rattle.std.specs.Prelude.{◌⊎◌}
use Rattle.std.proofs.lemmas.Grind.{flat_map-append}
use Rattle.std.proofs.lemmas.List.{length-append, take-append-drop}
use Rattle.jpg_spec.specs.Elements.{Coding, UnitLeft, Standing, Element, difference, dc_bit, value, long_run, ends, Covers, Tells, predictions_after, at_start, zeros_in, corrected, scaled, going_on, old_values}
use Rattle.jpg_spec.specs.Parts.{PartOfElement, in_code, in_difference, in_number, in_count, in_value, in_long, in_ends, CountsAll}
use Rattle.jpg_spec.proofs.Bits.Within.{length_corrected}

going_size : (u : UnitLeft) (old : List ℤ) (us : List UnitLeft) → length (old_values (going_on u old us)) ≡ length old + length (old_values us)
going_size u [] us = omega arith
going_size u (o ∷ old) us = length-append (o ∷ old) (old_values us)

units_join : (a b : List UnitLeft) → length (old_values (a ++ b)) ≡ length (old_values a) + length (old_values b)
units_join a b = ap length (flat_map-append (λ (u : UnitLeft). u.old) a b) ∙ length-append (old_values a) (old_values b)

-- a unit of these values, and others
unit_size : (u : UnitLeft) (us : List UnitLeft) → length (old_values (u ∷ us)) ≡ length u.old + length (old_values us)
unit_size u us = length-append u.old (old_values us)

tells_all : (c : Coding) (p : ℤ) (e : Element) (u : UnitLeft) (us : List UnitLeft) (here : List ℤ) (left : List UnitLeft) → Tells c p e u us here left → length here + length (old_values left) ≡ length (old_values (u ∷ us))
tells_all c p (difference d) u us here left t =
    omega (arith, ap length t.6, ap (λ vs. length (old_values vs)) t.7, going_size u t.1 us, unit_size u us, ap length t.5)
tells_all c p (dc_bit b) u us here left t =
    omega (arith, ap length t.5, ap (λ vs. length (old_values vs)) t.6, going_size u t.1 us, unit_size u us, ap length t.4)
tells_all c p (value run v bits) u us here left t =
    omega (arith, ap length t.9, length-append (corrected c.al t.0 bits) (scaled c.al v ∷ []), length_corrected c.al t.0 bits, ap (λ vs. length (old_values vs)) t.10, going_size u t.1 us, unit_size u us, ap length t.6, length-append t.0 (pos 0 ∷ t.1))
tells_all c p (long_run bits) u us here left t = by t.3
  where
    told : length here + length (old_values left) ≡ length t.0 + (length t.1 + length (old_values us))
    told = omega (arith, ap length t.5, length_corrected c.al t.0 bits, ap (λ vs. length (old_values vs)) t.6, going_size u t.1 us)

    by : (((front : List ℤ) × (u.old ≡ front ++ pos 0 ∷ t.1) × (zeros_in front ≡ 15) × (t.0 ≡ front ++ pos 0 ∷ [])) ⊎ ((u.old ≡ t.0) × (zeros_in t.0 < 16) × (t.1 ≡ []))) → length here + length (old_values left) ≡ length (old_values (u ∷ us))
    by (inl f) = omega (arith, told, unit_size u us, ap length f.1, length-append f.0 (pos 0 ∷ t.1), ap length f.3, length-append f.0 (pos 0 ∷ []))
    by (inr f) = omega (arith, told, unit_size u us, ap length f.0, ap length f.2)
tells_all c p (ends bands bits) u us here left t =
    let l = u ∷ us in
    omega (arith, ap length t.5, length_corrected c.al (old_values (take bands l)) bits, ap (λ vs. length (old_values vs)) t.6, units_join (take bands l) (drop bands l), ap (λ vs. length (old_values vs)) (take-append-drop bands l))

pub covers_all : (c : Coding) (s : Standing) (es : List Element) (told : List ℤ) (bits : List Bool) (t : Standing) → Covers c s es told bits t → length told + length (old_values t.left) ≡ length (old_values s.left)
covers_all c s [] told bits t k = omega (arith, ap length k.0, ap (λ (x : Standing). length (old_values x.left)) k.2)
covers_all c s (e ∷ es) told bits t k =
    let next : Standing = record { predictions = predictions_after s.predictions (k.0).component e; left = k.3 } in
    let r = covers_all c next es k.4 k.6 t k.13 in
    omega (arith, ap length k.8, length-append k.2 k.4, r, tells_all c (s.predictions (k.0).component) e k.0 k.1 k.2 k.3 k.11, ap (λ vs. length (old_values vs)) k.7)

-- values that were skipped of a unit, and what is left of it and after it
passed_size : (u : UnitLeft) (others : List UnitLeft) (first : List ℤ) → (let v : UnitLeft = record u { old = first ++ u.old } in length (old_values (v ∷ others)) ≡ length first + length (old_values (u ∷ others)))
passed_size u others first = omega (arith, length-append (first ++ u.old) (old_values others), length-append first u.old, unit_size u others)

pub part_all : (c : Coding) (s : Standing) (u : UnitLeft) (others : List UnitLeft) (here : List ℤ) (bits : List Bool) → PartOfElement c s u others here bits → length here + length (old_values (u ∷ others)) ≡ length (old_values s.left)
part_all c s u others here bits (in_code h) = omega (arith, ap length h.none, ap (λ vs. length (old_values vs)) h.left)
part_all c s u others here bits (in_difference size extra h few) = omega (arith, ap length h.none, ap (λ vs. length (old_values vs)) h.left)
part_all c s u others here bits (in_number run size extra h few) = omega (arith, ap length h.none, ap (λ vs. length (old_values vs)) h.left)
part_all c s u others here bits (in_count n extra h few) = omega (arith, ap length h.none, ap (λ vs. length (old_values vs)) h.left)
part_all c s u others here bits (in_value run v h due) = omega (arith, ap length h.told, length_corrected c.al h.passed h.corrections, ap (λ vs. length (old_values vs)) h.left, passed_size u others h.passed)
part_all c s u others here bits (in_long run h due) = omega (arith, ap length h.told, length_corrected c.al h.passed h.corrections, ap (λ vs. length (old_values vs)) h.left, passed_size u others h.passed)
part_all c s u others here bits (in_ends bands h due) =
    let v : UnitLeft = record u { old = h.first ++ u.old } in
    omega (arith, ap length h.told, length_corrected c.al (old_values h.whole ++ h.first) h.corrections, length-append (old_values h.whole) h.first, ap (λ vs. length (old_values vs)) h.left, units_join h.whole (v ∷ others), passed_size u others h.first)

-- THE LAW
pub stands_all : (c : Coding) (units : List UnitLeft) (bits : List Bool) → CountsAll c units bits
stands_all c units bits told left w =
    omega (arith, ap length w.same, length-append w.before w.here, ap (λ vs. length (old_values vs)) w.first, part_all c w.standing w.unit w.others w.here w.part w.is_part, covers_all c (at_start units) w.elements w.before w.front w.standing w.covers)
