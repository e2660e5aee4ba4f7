-- The blocks of a view are in the bounds, and only the real ones are kept in a picture.
use Rattle.std.proofs.Common.{◌≡◌, ℕ, zero, suc, ◌<◌, ◌≤◌, Bool, true, false, cond, ◌&&◌, ◌==◌, List, [], ◌∷◌, length, refl, sym, ap, ◌∙◌, subst, arith, ⊎_elim, ℤ, pos}
use Rattle.std.specs.Prelude.{nat_lt, nat_abs, int_le, slice_index_or}
use Rattle.std.proofs.Math.Path.{fun_ext}
use Rattle.std.proofs.lemmas.Bool.{cases_lt}
use Rattle.std.proofs.lemmas.Bool.Decides.{nat_tests}
use Rattle.std.proofs.lemmas.List.{get_or_past, get_or-replicate, length-replicate}
use Rattle.jpg_spec.specs.Elements.{IsBlockIn, are_in_bounds, zeros}
use Rattle.jpg_spec.specs.Geometry.{Frame, IsReal, blocks_across, blocks_down, bounds, bounds_of, component_at, is_real}
use Rattle.jpg_spec.specs.Meaning.{real_blocks}
use Rattle.jpg_spec.specs.Ranges.{AreInRange, is_coefficient}
use Rattle.jpg_spec.specs.Scan.{Blocks}
use Rattle.jpg_spec.specs.declared.frame.Bounds.{Bounds}
use Rattle.jpg_spec.proofs.Basics.Common.{both, lt_of}
use Rattle.jpg_spec.proofs.Files.Ranges.{zero_in}
use Rattle.jpg_spec_write.specs.WrittenFile.{HasBlocksIn}

-- REAL PLACES

pub real_at : (f : Frame) (i x y : ℕ) → (nat_lt i (length f.components) && is_real f i x y) ≡ true → IsReal f i x y
real_at f i x y e =
    let a = both (nat_lt i (length f.components)) (is_real f i x y) e in
    let b = both (nat_lt x (blocks_across f (component_at f i))) (nat_lt y (blocks_down f (component_at f i))) a.1 in
    record { component = lt_of i (length f.components) a.0; across = lt_of x (blocks_across f (component_at f i)) b.0; down = lt_of y (blocks_down f (component_at f i)) b.1 }

pub real_alike : (f : Frame) (one other : Blocks) → ((i x y : ℕ) → IsReal f i x y → one i x y ≡ other i x y) → real_blocks f one ≡ real_blocks f other
real_alike f one other same = fun_ext (λ i. fun_ext (λ x. fun_ext (λ y. by i x y (nat_lt i (length f.components) && is_real f i x y) refl)))
  where
    by : (i x y : ℕ) (b : Bool) → (nat_lt i (length f.components) && is_real f i x y) ≡ b → cond b (one i x y) (zeros 64) ≡ cond b (other i x y) (zeros 64)
    by i x y true e = same i x y (real_at f i x y e)
    by i x y false e = refl

-- THE BOUNDS, of one coefficient after another

ac_at : (b : Bounds) (l : List ℤ) (k : ℕ) → are_in_bounds b false l ≡ true → k < length l → int_le (pos (nat_abs (slice_index_or l k (pos 0)))) b.ac ≡ true
ac_at b [] k e h = absurd (omega (arith, h))
ac_at b (v ∷ l) zero e h = (both (int_le (pos (nat_abs v)) b.ac) (are_in_bounds b false l) e).0
ac_at b (v ∷ l) (suc k) e h = ac_at b l k (both (int_le (pos (nat_abs v)) b.ac) (are_in_bounds b false l) e).1 (omega (arith, h))

value_at : (b : Bounds) (l : List ℤ) (k : ℕ) → are_in_bounds b true l ≡ true → k < length l → is_coefficient b k (slice_index_or l k (pos 0)) ≡ true
value_at b [] k e h = absurd (omega (arith, h))
value_at b (v ∷ l) zero e h = (both (int_le b.dc_low v && int_le v b.dc_high) (are_in_bounds b false l) e).0
value_at b (v ∷ l) (suc k) e h =
    let some : (suc k == 0) ≡ false = grind (arith, nat_tests) in
    let w = slice_index_or l k (pos 0) in
    ap (λ t. cond t (int_le b.dc_low w && int_le w b.dc_high) (int_le (pos (nat_abs w)) b.ac)) some
    ∙ ac_at b l k (both (int_le b.dc_low v && int_le v b.dc_high) (are_in_bounds b false l) e).1 (omega (arith, h))

in_block : (n : ℕ) (block : List ℤ) (k : ℕ) → IsBlockIn (bounds_of n) block → is_coefficient (bounds_of n) k (slice_index_or block k (pos 0)) ≡ true
in_block n block k is =
    ⊎_elim (λ (h : k < 64). value_at (bounds_of n) block k is.1 (omega (arith, h, is.0)))
    (λ (h : 64 ≤ k). subst (λ v. is_coefficient (bounds_of n) k v ≡ true) (sym (get_or_past block k (pos 0) (omega (arith, h, is.0)))) (zero_in n k)) (cases_lt k 64)

in_zeros : (n k : ℕ) → is_coefficient (bounds_of n) k (slice_index_or (zeros 64) k (pos 0)) ≡ true
in_zeros n k =
    ⊎_elim (λ (h : k < 64). subst (λ v. is_coefficient (bounds_of n) k v ≡ true) (sym (get_or-replicate 64 k (pos 0) (pos 0) h)) (zero_in n k))
    (λ (h : 64 ≤ k). subst (λ v. is_coefficient (bounds_of n) k v ≡ true) (sym (get_or_past (zeros 64) k (pos 0) (omega (arith, h, length-replicate 64 (pos 0))))) (zero_in n k)) (cases_lt k 64)

pub real_in_range : (f : Frame) (blocks : Blocks) → HasBlocksIn f blocks → AreInRange (bounds f) (real_blocks f blocks)
real_in_range f blocks has = record {
  sizes = λ i x y. size i x y (nat_lt i (length f.components) && is_real f i x y) refl;
  values = λ i x y k. value i x y k (nat_lt i (length f.components) && is_real f i x y) refl;
}
  where
    size : (i x y : ℕ) (b : Bool) → (nat_lt i (length f.components) && is_real f i x y) ≡ b → length (cond b (blocks i x y) (zeros 64)) ≡ 64
    size i x y true e = (has i x y (real_at f i x y e)).0
    size i x y false e = length-replicate 64 (pos 0)

    value : (i x y k : ℕ) (b : Bool) → (nat_lt i (length f.components) && is_real f i x y) ≡ b → is_coefficient (bounds f) k (slice_index_or (cond b (blocks i x y) (zeros 64)) k (pos 0)) ≡ true
    value i x y k true e = in_block f.precision (blocks i x y) k (has i x y (real_at f i x y e))
    value i x y k false e = in_zeros f.precision k
