-- Scans of a sequential frame by tables in slots 0 and 1.
use Rattle.std.proofs.Common.{◌≡◌, ℕ, zero, suc, ◌<◌, ◌≤◌, true, false, [], ◌∷◌, map, length, refl, sym, subst, arith, get_or}
use Rattle.std.specs.List.{All}
use Rattle.jpg_spec.specs.Lists.{below, is_distinct}
use Rattle.jpg_spec.specs.Geometry.{Frame, is_progressive}
use Rattle.jpg_spec.specs.Segments.{ScanHead, head_components}
use Rattle.jpg_base.specs.Cursor.{AreIn}
use Rattle.jpg_huff.specs.declared.set.TableSet.{TableSet}
use Rattle.jpg_seq.specs.Reader.{IsSeqScan, HasTables}
use Rattle.test_parts.specs.Heads.{part_for, head_for, HasFour}

has_first : (set : TableSet) → HasFour set → HasTables set (part_for 0)
has_first set h = record { dc = h.dc; in_dc = h.in_dc; ac = h.ac; in_ac = h.in_ac }

-- slots 1
has_other : (set : TableSet) (i : ℕ) → HasFour set → HasTables set (record { component = i; dc = 1; ac = 1 })
has_other set i h = record { dc = h.other_dc; in_dc = h.in_other_dc; ac = h.other_ac; in_ac = h.in_other_ac }

-- a scan of all of one to four components
pub all_in : (f : Frame) → 1 ≤ length f.components → length f.components ≤ 4 → AreIn f (head_components (head_for (map part_for (below (length f.components)))))
all_in f some few = by (length f.components) refl some few
  where
    by : (n : ℕ) → length f.components ≡ n → 1 ≤ n → n ≤ 4 → AreIn f (head_components (head_for (map part_for (below n))))
    by zero e some few = absurd (omega (arith, some))
    by (suc zero) e some few = record { some = omega arith; few = omega arith; there = λ k d h. one k d h }
      where
        one : (k d : ℕ) → k < 1 → get_or (0 ∷ []) k d < length f.components
        one zero d h = omega (arith, e)
        one (suc k) d h = absurd (omega (arith, h))
    by (suc (suc zero)) e some few = record { some = omega arith; few = omega arith; there = λ k d h. two k d h }
      where
        two : (k d : ℕ) → k < 2 → get_or (0 ∷ 1 ∷ []) k d < length f.components
        two zero d h = omega (arith, e)
        two (suc zero) d h = omega (arith, e)
        two (suc (suc k)) d h = absurd (omega (arith, h))
    by (suc (suc (suc zero))) e some few = record { some = omega arith; few = omega arith; there = λ k d h. three k d h }
      where
        three : (k d : ℕ) → k < 3 → get_or (0 ∷ 1 ∷ 2 ∷ []) k d < length f.components
        three zero d h = omega (arith, e)
        three (suc zero) d h = omega (arith, e)
        three (suc (suc zero)) d h = omega (arith, e)
        three (suc (suc (suc k))) d h = absurd (omega (arith, h))
    by (suc (suc (suc (suc zero)))) e some few = record { some = omega arith; few = omega arith; there = λ k d h. four k d h }
      where
        four : (k d : ℕ) → k < 4 → get_or (0 ∷ 1 ∷ 2 ∷ 3 ∷ []) k d < length f.components
        four zero d h = omega (arith, e)
        four (suc zero) d h = omega (arith, e)
        four (suc (suc zero)) d h = omega (arith, e)
        four (suc (suc (suc zero))) d h = omega (arith, e)
        four (suc (suc (suc (suc k)))) d h = absurd (omega (arith, h))
    by (suc (suc (suc (suc (suc n))))) e some few = absurd (omega (arith, few))

-- each part of all components has its tables
all_tables : (set : TableSet) → HasFour set → (n : ℕ) → n ≤ 4 → All (HasTables set) (map part_for (below n))
all_tables set h zero few k d low = absurd (omega (arith, low))
all_tables set h (suc zero) few zero d low = has_first set h
all_tables set h (suc zero) few (suc k) d low = absurd (omega (arith, low))
all_tables set h (suc (suc zero)) few zero d low = has_first set h
all_tables set h (suc (suc zero)) few (suc zero) d low = has_other set 1 h
all_tables set h (suc (suc zero)) few (suc (suc k)) d low = absurd (omega (arith, low))
all_tables set h (suc (suc (suc zero))) few zero d low = has_first set h
all_tables set h (suc (suc (suc zero))) few (suc zero) d low = has_other set 1 h
all_tables set h (suc (suc (suc zero))) few (suc (suc zero)) d low = has_other set 2 h
all_tables set h (suc (suc (suc zero))) few (suc (suc (suc k))) d low = absurd (omega (arith, low))
all_tables set h (suc (suc (suc (suc zero)))) few zero d low = has_first set h
all_tables set h (suc (suc (suc (suc zero)))) few (suc zero) d low = has_other set 1 h
all_tables set h (suc (suc (suc (suc zero)))) few (suc (suc zero)) d low = has_other set 2 h
all_tables set h (suc (suc (suc (suc zero)))) few (suc (suc (suc zero))) d low = has_other set 3 h
all_tables set h (suc (suc (suc (suc zero)))) few (suc (suc (suc (suc k)))) d low = absurd (omega (arith, low))
all_tables set h (suc (suc (suc (suc (suc n))))) few k d low = absurd (omega (arith, few))

all_distinct : (n : ℕ) → n ≤ 4 → is_distinct (head_components (head_for (map part_for (below n)))) ≡ true
all_distinct zero few = refl
all_distinct (suc zero) few = refl
all_distinct (suc (suc zero)) few = refl
all_distinct (suc (suc (suc zero))) few = refl
all_distinct (suc (suc (suc (suc zero)))) few = refl
all_distinct (suc (suc (suc (suc (suc n))))) few = absurd (omega (arith, few))

pub all_scan : (f : Frame) (head : ScanHead) (set : TableSet) → is_progressive f.process ≡ false → 1 ≤ length f.components → length f.components ≤ 4 → HasFour set → head ≡ head_for (map part_for (below (length f.components)))
    → IsSeqScan f head set
all_scan f head set sequential some few h e =
    subst (λ (x : ScanHead). IsSeqScan f x set) (sym e) (record {
      sequential = sequential;
      components = all_in f some few;
      distinct = all_distinct (length f.components) few;
      tables = all_tables set h (length f.components) few;
    })
