-- The bits that mark which numbers of a block aren't 0.
use Rattle.std.proofs.Common.{◌≡◌, ℕ, zero, suc, ◌<◌, ◌-◌, ◌%◌, ◌^◌, ◌==◌, Bool, true, false, cond, not, List, length, take, get_or, map, refl, ap, ◌∙◌, arith, ℤ, pos, negsuc, ◌≤ℤ◌, of_z}
use Rattle.std.specs.Prelude.{replicate, if◌then◌else◌}
use Rattle.std.specs.Int.{bit_at}
use mir.Syntax.{w16}
use mir.Val.{hbits, bits}
use Rattle.std.specs.Simd.Lanes.{mask_l, zip2, top}
use Rattle.std.proofs.lemmas.Bool.Decides.{nat_tests}
use Rattle.std.proofs.lemmas.Int.{ints}
use Rattle.std.proofs.lemmas.List.{get_or-map, length-map, take_all}
use Rattle.std.proofs.lemmas.Simd.{bitmask_splat, bit_mask_l}
use Rattle.jpg_spec.specs.Elements.{is_zero}
use Rattle.jpg_base.proofs.Swizzled.{lanes}

abbrev pub differs : ℕ → ℕ → Bool
differs a b = not (a == b)

one_lane : (v : ℤ) → negsuc 32767 ≤ℤ v → differs (of_z w16 v) 0 ≡ not (is_zero v)
one_lane (pos zero) low = refl
one_lane (pos (suc n)) low =
    let t : (suc n == 0) ≡ false = grind (arith, nat_tests) in
    ap not t
one_lane (negsuc n) low =
    let few : n < 65535 = omega (arith, ints) in
    let t : (2 ^ 16 - suc n == 0) ≡ false = grind (arith, nat_tests) in
    ap not t

bit_of : (b : Bool) → let n : ℕ = if b then 0 else 1 in cond (not b) 1 0 ≡ n
bit_of true = refl
bit_of false = refl

pub nonzero_bits : (xs : List ℤ) → length xs ≡ 64 → ((k : ℕ) → k < 64 → (negsuc 32767 ≤ℤ get_or xs k (pos 0)) × (get_or xs k (pos 0) ≤ℤ pos 32767)) → (k : ℕ) → k < 64
    → bit_at (mask_l (map (top (hbits w16)) (zip2 (λ a b. cond (differs a b) (2 ^ bits w16 - 1) 0) (lanes xs) (replicate 64 0))) % 2 ^ 64) k ≡ (if is_zero (get_or xs k (pos 0)) then 0 else 1)
nonzero_bits xs long fit k h =
    let few = length-map xs (of_z w16) in
    let some : k < length xs = omega (arith, long, h) in
    let more : k < length (lanes xs) = omega (arith, few, some) in
    ap (λ n. bit_at n k) (bitmask_splat w16 differs (lanes xs) 64 0 (few ∙ long) (omega arith))
    ∙ bit_mask_l (map (λ x. differs x 0) (lanes xs)) k
    ∙ ap (λ b. cond b 1 0) (get_or-map (λ x. differs x 0) (lanes xs) k 0 false more
    ∙ ap (λ x. differs x 0) (get_or-map (of_z w16) xs k (pos 0) 0 some)
    ∙ one_lane (get_or xs k (pos 0)) (fit k h).0)
    ∙ bit_of (is_zero (get_or xs k (pos 0)))

-- taken from a slice
pub nonzero_slice : (xs : List ℤ) → length xs ≡ 64 → ((k : ℕ) → k < 64 → (negsuc 32767 ≤ℤ get_or xs k (pos 0)) × (get_or xs k (pos 0) ≤ℤ pos 32767)) → (k : ℕ) → k < 64
    → bit_at (mask_l (map (top (hbits w16)) (zip2 (λ a b. cond (differs a b) (2 ^ bits w16 - 1) 0) (lanes (take 64 xs)) (replicate 64 0))) % 2 ^ 64) k ≡ (if is_zero (get_or xs k (pos 0)) then 0 else 1)
nonzero_slice xs long fit k h =
    ap (λ (ys : List ℤ). bit_at (mask_l (map (top (hbits w16)) (zip2 (λ a b. cond (differs a b) (2 ^ bits w16 - 1) 0) (lanes ys) (replicate 64 0))) % 2 ^ 64) k) (take_all 64 xs (omega (arith, long))) ∙ nonzero_bits xs long fit k h
