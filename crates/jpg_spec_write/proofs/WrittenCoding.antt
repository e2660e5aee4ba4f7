-- What a sequential scan writes is in the grammar, by the tables in force for its components.
use Rattle.std.proofs.Common.{◌≡◌, ℕ, zero, suc, Bool, true, false, cond, List, [], ◌∷◌, drop, Some, sym, ap, ◌∙◌, subst, ℤ, pos}
use Rattle.std.specs.Prelude.{map, flat_map}
use Rattle.jpg_spec.specs.Codes.{Code}
use Rattle.jpg_spec.specs.Lists.{is_among}
use Rattle.jpg_spec.specs.Geometry.{Frame, is_progressive}
use Rattle.jpg_spec.specs.Segments.{HuffmanTable, ScanHead, head_components}
use Rattle.jpg_spec.specs.Elements.{Coding, UnitLeft, Standing, Element, difference, dc_bit, value, long_run, ends, Covers, Tells, SpellsElement, codes_due, going_on, predictions_after, at_start, new_unit}
use Rattle.jpg_spec.specs.Scan.{TablesInForce, codes_of, part_of, scan_coding}
use Rattle.jpg_spec_write.specs.ScanText.{UnitDue, unit_elements}
use Rattle.jpg_spec_write.specs.Written.{IsWritable, HasCode, all_in_force, sequential_bits, SpellsDue}
use Rattle.jpg_spec_write.proofs.Sequential.{written_spells}
use Rattle.jpg_spec.proofs.Basics.Each.{Each}

-- ONLY THE CODES of the components of the units matter

abbrev pub coded_by : Coding → (ℕ → List Code) → (ℕ → List Code) → Coding
coded_by c dc ac = record c { dc = dc; ac = ac }

abbrev pub AllIn : (ℕ → Bool) → List UnitLeft → Type 0
AllIn test [] = Unit {0}
AllIn test (u ∷ us) = (test u.component ≡ true) × AllIn test us

in_going : (test : ℕ → Bool) (u : UnitLeft) (old : List ℤ) (us : List UnitLeft) → AllIn test (u ∷ us) → AllIn test (going_on u old us)
in_going test u [] us a = a.1
in_going test u (o ∷ old) us a = a

in_drop : (test : ℕ → Bool) (n : ℕ) (us : List UnitLeft) → AllIn test us → AllIn test (drop n us)
in_drop test zero us a = a
in_drop test (suc n) [] a = tt
in_drop test (suc n) (u ∷ us) a = in_drop test n us a.1

in_after : (c : Coding) (p : ℤ) (test : ℕ → Bool) (e : Element) (u : UnitLeft) (units : List UnitLeft) (here : List ℤ) (left : List UnitLeft) → Tells c p e u units here left → AllIn test (u ∷ units) → AllIn test left
in_after c p test (difference d) u units here left t a = subst (λ l. AllIn test l) (sym t.7) (in_going test u t.1 units a)
in_after c p test (dc_bit b) u units here left t a = subst (λ l. AllIn test l) (sym t.6) (in_going test u t.1 units a)
in_after c p test (value run v bits) u units here left t a = subst (λ l. AllIn test l) (sym t.10) (in_going test u t.1 units a)
in_after c p test (long_run bits) u units here left t a = subst (λ l. AllIn test l) (sym t.6) (in_going test u t.1 units a)
in_after c p test (ends bands bits) u units here left t a = subst (λ l. AllIn test l) (sym t.6) (in_drop test bands (u ∷ units) a)

abbrev pub AreSameCodes : Coding → (ℕ → List Code) → (ℕ → List Code) → (ℕ → Bool) → Type 0
AreSameCodes c dc ac test = (i : ℕ) → test i ≡ true → (c.dc i ≡ dc i) × (c.ac i ≡ ac i)

module _ (c : Coding) (dc ac : ℕ → List Code) where
  tells_coded : (p : ℤ) (e : Element) (u : UnitLeft) (units : List UnitLeft) (here : List ℤ) (left : List UnitLeft) → Tells c p e u units here left → Tells (coded_by c dc ac) p e u units here left
  tells_coded p (difference d) u units here left t = t
  tells_coded p (dc_bit b) u units here left t = t
  tells_coded p (value run v bits) u units here left t = t
  tells_coded p (long_run bits) u units here left t = t
  tells_coded p (ends bands bits) u units here left t = t

  due_coded : (test : ℕ → Bool) (u : UnitLeft) → AreSameCodes c dc ac test → test u.component ≡ true → codes_due c u ≡ codes_due (coded_by c dc ac) u
  due_coded test u same h =
      ap (λ q. cond u.has_dc q (c.ac u.component)) (same u.component h).0 ∙ ap (λ q. cond u.has_dc (dc u.component) q) (same u.component h).1

  pub covers_coded : (test : ℕ → Bool) (s t : Standing) (es : List Element) (told : List ℤ) (bits : List Bool) → AreSameCodes c dc ac test → AllIn test s.left
      → Covers c s es told bits t → Covers (coded_by c dc ac) s es told bits t
  covers_coded test s t [] told bits same a k = k
  covers_coded test s t (e ∷ es) told bits same a k =
      let all : AllIn test (k.0 ∷ k.1) = subst (λ l. AllIn test l) k.7 a in (
        k.0,
        k.1,
        k.2,
        k.3,
        k.4,
        k.5,
        k.6,
        k.7,
        k.8,
        k.9,
        subst (λ q. SpellsElement q e k.5) (due_coded test k.0 same all.0) k.10,
        tells_coded (s.predictions (k.0).component) e k.0 k.1 k.2 k.3 k.11,
        k.12,
        covers_coded test (record { predictions = predictions_after s.predictions (k.0).component e; left = k.3 }) t es k.4 k.6 same
            (in_after c (s.predictions (k.0).component) test e k.0 k.1 k.2 k.3 k.11 all) k.13,
      )

-- THE TABLES in force are those that the scan is written by, for its components

abbrev pub Gives : (ℕ → ℕ → HuffmanTable) → TablesInForce → ScanHead → Type 0
Gives due tables head =
    (i : ℕ) → is_among i (head_components head) ≡ true
    → (tables 0 (part_of head i).dc ≡ Some (due 0 (part_of head i).dc)) × (tables 1 (part_of head i).ac ≡ Some (due 1 (part_of head i).ac))

units_in : (test : ℕ → Bool) (due : List UnitDue) → Each (λ (u : UnitDue). test u.0 ≡ true) due → AllIn test (map (λ (u : UnitDue). new_unit u.0) due)
units_in test [] h = tt
units_in test (u ∷ due) h = (h.0, units_in test due h.1)

pub scan_spells : (f : Frame) (by : ℕ → ℕ → HuffmanTable) (tables : TablesInForce) (head : ScanHead) (due : List UnitDue) → is_progressive f.process ≡ false → Gives by tables head
    → Each (λ (u : UnitDue). is_among u.0 (head_components head) ≡ true) due → Each (IsWritable (scan_coding f (all_in_force by) head)) due → Each (HasCode by head) (unit_elements true false 0 (λ i. pos 0) due)
    → SpellsDue (scan_coding f tables head) due (sequential_bits by head due)
scan_spells f by tables head due e given named ok coded =
    let c = scan_coding f (all_in_force by) head in
    let dc = λ (i : ℕ). codes_of (tables 0 (part_of head i).dc) in
    let ac = λ (i : ℕ). codes_of (tables 1 (part_of head i).ac) in
    let k = written_spells f by head due e ok coded in
    let test : ℕ → Bool = λ i. is_among i (head_components head) in
    let same : AreSameCodes c dc ac test = λ i h. (sym (ap codes_of (given i h).0), sym (ap codes_of (given i h).1)) in
    (k.0, k.1, covers_coded c dc ac test (at_start (map (λ (u : UnitDue). new_unit u.0) due)) k.1 k.0 (flat_map (λ (u : UnitDue). u.1) due) (sequential_bits by head due) same (units_in test due named) k.2, k.3)
