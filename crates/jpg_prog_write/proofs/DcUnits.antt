-- The bits of a DC scan's units, one unit after another.
use Rattle.std.proofs.Common.{◌≡◌, ℕ, ◌==◌, ◌/◌, ◌%◌, ◌^◌, Bool, true, false, cond, List, [], ◌∷◌, ◌++◌, take, refl, sym, ap, ◌∙◌, arith, ℤ, pos}
use Rattle.std.specs.Prelude.{map, flat_map, slice_index_or, nat_lt, nat_abs, ◌-ℤ◌}
use Rattle.std.proofs.Math.Path.{fun_ext}
use Rattle.jpg_spec.specs.Numbers.{category, extra_bits}
use Rattle.jpg_spec.specs.Segments.{HuffmanTable, ScanHead}
use Rattle.jpg_spec.specs.Elements.{predicted}
use Rattle.jpg_spec_write.specs.Sending.{shifted, band_elements}
use Rattle.jpg_spec.specs.Scan.{part_of}
use Rattle.jpg_spec_write.specs.ScanText.{UnitDue, Owned, last_dc, dc_element, band_of, unit_elements, interval_elements, element_bits}
use Rattle.jpg_spec.specs.Codes.{code_of}
use Rattle.jpg_spec.specs.declared.frame.ScanPart.{ScanPart}
use Rattle.jpg_huff.specs.declared.set.TableSet.{TableSet}
use Rattle.jpg_coefs.specs.Sinks.{no_last}
use Rattle.jpg_prog_write.specs.Written.{tables_in, codes_in, dc_unit}
use Rattle.jpg_prog_write.specs.ScanSinks.{dc_all}

-- UNITS

shifted_last : (al : ℕ) (last : ℕ → ℤ) (i : ℕ) (block : List ℤ) → predicted (λ j. shifted al (last j)) i (shifted al (slice_index_or block 0 (pos 0))) ≡ (λ j. shifted al (last_dc last i block j))
shifted_last al last i block = fun_ext (λ j. by (j == i) (last j))
  where
    by : (b : Bool) (v : ℤ) → cond b (shifted al (slice_index_or block 0 (pos 0))) (shifted al v) ≡ shifted al (cond b (slice_index_or block 0 (pos 0)) v)
    by true v = refl
    by false v = refl

shifted_none : (al : ℕ) → pos 0 ≡ shifted al (pos 0)
shifted_none al = ap pos (zero_of (2 ^ al))
  where
    zero_of : (m : ℕ) → 0 ≡ 0 / m
    zero_of m = omega arith

-- WHAT EACH ELEMENT of a scan with this header gives
module _ {X : Type 0} (each : Owned → List X) (head : ScanHead) where
  -- the first of those that are left
  pub next_unit : (last : ℕ → ℤ) (i : ℕ) (before value : ℤ) (block : List ℤ) (due : List UnitDue) → last i ≡ before → value ≡ slice_index_or block 0 (pos 0)
      → dc_all each head last ((i, block) ∷ due) ≡ each (dc_unit head i before value) ++ dc_all each head (last_dc last i block) due
  next_unit last i before value block due e v =
      let of : ℤ → ℤ → List X = λ b w. each (dc_unit head i b w) ++ dc_all each head (last_dc last i block) due in
      ap (λ q. each (dc_unit head i (last i) (slice_index_or block 0 (pos 0))) ++ flat_map each (unit_elements false (nat_lt 0 head.ah) head.al q due)) (shifted_last head.al last i block)
      ∙ ap (λ b. of b (slice_index_or block 0 (pos 0))) e ∙ ap (of before) (sym v)

  -- before the first of an interval
  pub first_all : (due : List UnitDue) → head.ss ≡ 0 → dc_all each head no_last due ≡ flat_map each (interval_elements true head due)
  first_all due dc =
      let s : (λ (i : ℕ). pos 0) ≡ (λ (i : ℕ). shifted head.al (no_last i)) = fun_ext (λ i. shifted_none head.al) in
      let bands : List Owned = flat_map (λ e. map (λ (u : UnitDue). (u.0, e)) (take 1 due)) (band_elements 32767 0 [] (map (λ (u : UnitDue). band_of head u.1) due)) in
      sym (ap (λ n. flat_map each (cond (nat_lt 0 n) bands (unit_elements false (nat_lt 0 head.ah) head.al (λ i. pos 0) due))) dc ∙ ap (λ p. flat_map each (unit_elements false (nat_lt 0 head.ah) head.al p due)) s)

abbrev pub one_bits : (ℕ → ℕ → HuffmanTable) → ScanHead → ℕ → ℤ → ℤ → List Bool
one_bits T head i last v = element_bits T head (dc_unit head i last v)

-- THE BITS OF ONE UNIT

pub bit_unit : (set : TableSet) (head : ScanHead) (i : ℕ) (last v w : ℤ) (b : Bool) → nat_lt 0 head.ah ≡ true → w ≡ shifted head.al v → b ≡ (nat_abs w % 2 == 1) → b ∷ [] ≡ one_bits (tables_in set) head i last v
unfolding element_bits
bit_unit set head i last v w b refines is e =
    ap (λ b. b ∷ []) (e ∙ ap (λ w. nat_abs w % 2 == 1) is) ∙ ap (λ r. element_bits (tables_in set) head (i, dc_element r head.al (shifted head.al last) v)) (sym refines)

pub code_unit : (set : TableSet) (head : ScanHead) (i : ℕ) (last v d : ℤ) (p : ScanPart) → nat_lt 0 head.ah ≡ false → p ≡ part_of head i → d ≡ shifted head.al v -ℤ shifted head.al last
    → code_of (codes_in set 0 p.dc) (category d) ++ extra_bits d ≡ one_bits (tables_in set) head i last v
unfolding element_bits
code_unit set head i last v d p first is e =
    ap (λ (q : ScanPart). code_of (codes_in set 0 q.dc) (category d) ++ extra_bits d) is
    ∙ ap (λ d. code_of (codes_in set 0 (part_of head i).dc) (category d) ++ extra_bits d) e
    ∙ ap (λ r. element_bits (tables_in set) head (i, dc_element r head.al (shifted head.al last) v)) (sym first)
