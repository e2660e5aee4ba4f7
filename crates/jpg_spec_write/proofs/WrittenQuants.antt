-- The quantisation tables that are written: their segments, their slots, and what is in force after them.
use Rattle.std.proofs.Common.{◌≡◌, ℕ, zero, suc, ◌+◌, ◌<◌, ◌≤◌, Bool, true, false, cond, List, [], ◌∷◌, length, take, refl, sym, ap, ◌∙◌, subst, arith, Option, Some, ◌==◌}
use Rattle.std.specs.Prelude.{◌||◌, flat_map, find, Ok, option_map}
use Rattle.std.specs.Int.{to_be_bytes, w16}
use Rattle.std.proofs.Math.Seq.{take_all}
use Rattle.jpg_spec.specs.Lists.{any_of, are_equal}
use Rattle.jpg_spec.specs.Segments.{QuantTable}
use Rattle.jpg_spec.specs.QuantContents.{parsed_pairs, quant_tables}
use Rattle.jpg_spec_write.specs.Headed.{is_wide}
use Rattle.jpg_spec_write.specs.FileText.{distinct_after, slot_in}
use Rattle.jpg_spec.proofs.Segments.QuantsInForce.{IsQuants, AreTwoBytes, pairs_again, length_pairs_written, one_table}
use Rattle.jpg_spec.proofs.Basics.Each.{Each}
use Rattle.jpg_spec_write.proofs.WrittenState.{equal_lists}
use Rattle.jpg_spec.proofs.Places.PlacesFound.{or_first}
use Rattle.jpg_spec.proofs.Basics.Common.{same_of, same_itself, equal_itself, or_right}
use Rattle.jpg_spec.proofs.Writing.WrittenQuants.{is_in}

-- THE SEGMENT of a table in a slot

abbrev pub slot_contents : ℕ → QuantTable → List ℕ
slot_contents slot table = (cond (is_wide table) 16 0 + slot) ∷ cond (is_wide table) (flat_map (to_be_bytes w16) table) table

four : (P : ℕ → Type 0) → P 0 → P 1 → P 2 → P 3 → (n : ℕ) → n ≤ 3 → P n
four P a b c d zero h = a
four P a b c d (suc zero) h = b
four P a b c d (suc (suc zero)) h = c
four P a b c d (suc (suc (suc zero))) h = d
four P a b c d (suc (suc (suc (suc n)))) h = absurd (omega (arith, h))

pub slot_told : (slot : ℕ) (table : QuantTable) → slot ≤ 3 → IsQuants table → AreTwoBytes table → quant_tables (slot_contents slot table) ≡ Ok ((slot, table) ∷ [])
slot_told slot table few is are = by (is_wide table)
  where
    wide : length (flat_map (to_be_bytes w16) table) ≡ 128
    wide = omega (arith, length_pairs_written table, is.long)

    entries : parsed_pairs (take 128 (flat_map (to_be_bytes w16) table)) ≡ table
    entries = ap parsed_pairs (take_all 128 (flat_map (to_be_bytes w16) table) (omega (arith, wide))) ∙ pairs_again table are

    plain : take 64 table ≡ table
    plain = take_all 64 table (omega (arith, is.long))

    by : (b : Bool) → quant_tables ((cond b 16 0 + slot) ∷ cond b (flat_map (to_be_bytes w16) table) table) ≡ Ok ((slot, table) ∷ [])
    by true =
        four (λ n. quant_tables ((16 + n) ∷ flat_map (to_be_bytes w16) table) ≡ Ok ((n, table) ∷ []))
        (one_table 16 (flat_map (to_be_bytes w16) table) table is refl wide entries) (one_table 17 (flat_map (to_be_bytes w16) table) table is refl wide entries)
        (one_table 18 (flat_map (to_be_bytes w16) table) table is refl wide entries) (one_table 19 (flat_map (to_be_bytes w16) table) table is refl wide entries) slot few
    by false =
        four (λ n. quant_tables ((0 + n) ∷ table) ≡ Ok ((n, table) ∷ []))
        (one_table 0 table table is refl is.long plain) (one_table 1 table table is refl is.long plain)
        (one_table 2 table table is refl is.long plain) (one_table 3 table table is refl is.long plain) slot few

pub slot_short : (slot : ℕ) (table : QuantTable) → IsQuants table → length (slot_contents slot table) + 2 < 65536
slot_short slot table is = by (is_wide table)
  where
    by : (b : Bool) → length ((cond b 16 0 + slot) ∷ cond b (flat_map (to_be_bytes w16) table) table) + 2 < 65536
    by true = omega (arith, length_pairs_written table, is.long)
    by false = omega (arith, is.long)

-- TABLES AMONG TABLES

pub equal_swap : (a b : List ℕ) → are_equal a b ≡ true → are_equal b a ≡ true
equal_swap a b e = subst (λ x. are_equal x a ≡ true) (equal_lists a b e) (equal_itself a)

-- tables that aren't the same have different slots
pub slot_tells : (tables : List QuantTable) (t q : QuantTable) → is_in t tables ≡ true → is_in q tables ≡ true → slot_in tables t ≡ slot_in tables q → t ≡ q
slot_tells [] t q h k e = cc
slot_tells (x ∷ tables) t q h k e = by (are_equal x t) (are_equal x q) refl refl e (λ a b d. slot_tells tables t q a b d)
  where
    beside : (r : QuantTable) → are_equal x r ≡ false → (are_equal r x || is_in r tables) ≡ true → is_in r tables ≡ true
    beside r n m = inner (are_equal r x) refl m
      where
        inner : (b : Bool) → are_equal r x ≡ b → (b || is_in r tables) ≡ true → is_in r tables ≡ true
        inner true s m = let z : true ≡ false = sym (equal_swap r x s) ∙ n in cc
        inner false s m = m

    by : (a b : Bool) → are_equal x t ≡ a → are_equal x q ≡ b → cond a 0 (1 + slot_in tables t) ≡ cond b 0 (1 + slot_in tables q)
        → (is_in t tables ≡ true → is_in q tables ≡ true → slot_in tables t ≡ slot_in tables q → t ≡ q) → t ≡ q
    by true true m n e later = sym (equal_lists x t m) ∙ equal_lists x q n
    by true false m n e later = absurd (omega (arith, e))
    by false true m n e later = absurd (omega (arith, e))
    by false false m n e later = later (beside t m h) (beside q n k) (omega (arith, e))

-- each table is among the distinct ones, or was seen before
pub distinct_has : (seen tables : List QuantTable) (q : QuantTable) → is_in q tables ≡ true → (is_in q seen || is_in q (distinct_after seen tables)) ≡ true
distinct_has seen [] q h = cc
distinct_has seen (t ∷ tables) q h = by (are_equal q t) (is_in t seen) refl refl h (λ k. distinct_has seen tables q k) (λ k. distinct_has (t ∷ seen) tables q k)
  where
    turned : (a b c : Bool) → ((a || b) || c) ≡ true → (b || (a || c)) ≡ true
    turned true true c e = refl
    turned true false c e = refl
    turned false true c e = refl
    turned false false c e = e

    by : (a b : Bool) → are_equal q t ≡ a → is_in t seen ≡ b → (a || is_in q tables) ≡ true
        → (is_in q tables ≡ true → (is_in q seen || is_in q (distinct_after seen tables)) ≡ true)
        → (is_in q tables ≡ true → ((are_equal q t || is_in q seen) || is_in q (distinct_after (t ∷ seen) tables)) ≡ true)
        → (is_in q seen || is_in q (cond b (distinct_after seen tables) (t ∷ distinct_after (t ∷ seen) tables))) ≡ true
    by true true s k h old new = or_first (is_in q seen) (is_in q (distinct_after seen tables)) (ap (λ x. is_in x seen) (equal_lists q t s) ∙ k)
    by true false s k h old new = or_right (is_in q seen) (are_equal q t || is_in q (distinct_after (t ∷ seen) tables)) (or_first (are_equal q t) (is_in q (distinct_after (t ∷ seen) tables)) s)
    by false true s k h old new = old h
    by false false s k h old new = turned (are_equal q t) (is_in q seen) (is_in q (distinct_after (t ∷ seen) tables)) (new h)

pub distinct_each : (P : QuantTable → Type 0) (seen tables : List QuantTable) → Each P tables → Each P (distinct_after seen tables)
distinct_each P seen [] h = tt
distinct_each P seen (t ∷ tables) h = by (is_in t seen) (distinct_each P seen tables h.1) (distinct_each P (t ∷ seen) tables h.1)
  where
    by : (b : Bool) → Each P (distinct_after seen tables) → Each P (distinct_after (t ∷ seen) tables) → Each P (cond b (distinct_after seen tables) (t ∷ distinct_after (t ∷ seen) tables))
    by true old new = old
    by false old new = (h.0, new)

pub each_in : (tables : List QuantTable) (all : List QuantTable) → ((q : QuantTable) → is_in q tables ≡ true → is_in q all ≡ true) → Each (λ q. is_in q all ≡ true) tables
each_in [] all h = tt
each_in (t ∷ tables) all h = (h t (or_first (are_equal t t) (is_in t tables) (equal_itself t)), each_in tables all (λ q e. h q (or_right (are_equal q t) (is_in q tables) e)))

-- WHAT IS FOUND in a slot

abbrev pub SlotTable : Type 0
SlotTable = ℕ × QuantTable

abbrev pub IsSlotOf : List QuantTable → SlotTable → Type 0
IsSlotOf all d = (d.0 ≡ slot_in all d.1) × (is_in d.1 all ≡ true)

abbrev pub has_table : QuantTable → List SlotTable → Bool
has_table q tables = any_of (λ (d : SlotTable). are_equal q d.1) tables

pub slot_found : (all : List QuantTable) (q : QuantTable) (tables : List SlotTable) → is_in q all ≡ true → Each (IsSlotOf all) tables → has_table q tables ≡ true
    → option_map (λ (d : SlotTable). d.1) (find (λ (d : SlotTable). d.0 == slot_in all q) tables) ≡ Some q
slot_found all q [] known h e = cc
slot_found all q (d ∷ tables) known h e = by (d.0 == slot_in all q) refl (λ k. slot_found all q tables known h.1 k)
  where
    rest : (d.0 == slot_in all q) ≡ false → has_table q tables ≡ true
    rest n = inner (are_equal q d.1) refl e
      where
        inner : (b : Bool) → are_equal q d.1 ≡ b → (b || has_table q tables) ≡ true → has_table q tables ≡ true
        inner true s m =
            let same : d.0 ≡ slot_in all q = (h.0).0 ∙ ap (slot_in all) (sym (equal_lists q d.1 s)) in
            let z : true ≡ false = sym (same_itself (slot_in all q)) ∙ ap (λ k. k == slot_in all q) (sym same) ∙ n in
            cc
        inner false s m = m

    by : (b : Bool) → (d.0 == slot_in all q) ≡ b → (has_table q tables ≡ true → option_map (λ (d : SlotTable). d.1) (find (λ (d : SlotTable). d.0 == slot_in all q) tables) ≡ Some q)
        → option_map (λ (d : SlotTable). d.1) (cond b (Some d) (find (λ (d : SlotTable). d.0 == slot_in all q) tables)) ≡ Some q
    by true s later = ap (λ (x : QuantTable). (let r : Option QuantTable = Some x in r)) (slot_tells all d.1 q (h.0).1 known (sym (h.0).0 ∙ same_of d.0 (slot_in all q) s))
    by false s later = later (rest s)
