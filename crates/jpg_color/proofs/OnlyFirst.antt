-- A block whose coefficients are 0 except the first.
use Rattle.std.proofs.Common.{◌≡◌, ℕ, zero, suc, ◌<◌, ◌≤◌, true, cond, List, ◌∷◌, drop, nat_lt, get_or, slice_index, ℤ, pos, negsuc, ◌*ℤ◌, refl, sym, ap, ◌∙◌, arith}
use Rattle.std.specs.Prelude.{replicate}
use Rattle.std.specs.Int.{bit_at}
use Rattle.std.proofs.lemmas.Bool.{ltb-true}
use Rattle.std.proofs.lemmas.Int.{ints}
use Rattle.std.proofs.lemmas.Nat.Bits.{bit_at_above}
use Rattle.std.proofs.lemmas.List.{get_or-replicate}
use Rattle.std.proofs.lemmas.List.Elements.{All-get_or}
use Rattle.std.proofs.lemmas.List.Sums.{AllPass-from_list_all}
use Rattle.jpg_spec.specs.Lists.{index_of}
use Rattle.jpg_spec.specs.Elements.{is_zero}
use Rattle.jpg_spec.specs.Zigzag.{zigzag}
use Rattle.jpg_spec_image.specs.Dct.{number_at, dequantised}
use Rattle.jpg_spec.proofs.Basics.Rows.{by_items}
use Rattle.jpg_dct.proofs.Zigzag.{places, place_is, place_low}

abbrev value_of : List ℕ → List ℤ → ℕ → ℤ
value_of quants block n = number_at block (index_of n zigzag) *ℤ pos (slice_index quants (index_of n zigzag))

zero_value : (v : ℤ) → ◌≡◌ {A = ℕ} (cond (is_zero v) 0 1) 0 → v ≡ pos 0
zero_value (pos zero) e = refl
zero_value (pos (suc n)) e = absurd (omega (arith, e))
zero_value (negsuc n) e = absurd (omega (arith, e))

pub only_first : (mask : ℕ) (block : List ℤ) → mask < 2 → ((k : ℕ) → k < 64 → bit_at mask k ≡ cond (is_zero (number_at block k)) 0 1)
    → (k : ℕ) → 1 ≤ k → k < 64 → number_at block k ≡ pos 0
only_first mask block low bits k some lt = zero_value (number_at block k) (sym (bits k lt) ∙ bit_at_above mask 1 k low some)

pub only_ten : (mask : ℕ) (block : List ℤ) → mask < 1024 → ((k : ℕ) → k < 64 → bit_at mask k ≡ cond (is_zero (number_at block k)) 0 1)
    → (k : ℕ) → 10 ≤ k → k < 64 → number_at block k ≡ pos 0
only_ten mask block low bits k some lt = zero_value (number_at block k) (sym (bits k lt) ∙ bit_at_above mask 10 k low some)

place_some : (n : ℕ) → suc n < 64 → 1 ≤ get_or places (suc n) 0
place_some n lt =
    ltb-true 0 (get_or places (suc n) 0) (All-get_or (λ x. nat_lt 0 x ≡ true) (drop 1 places) n 0 (omega (arith, lt)) (AllPass-from_list_all (λ x. nat_lt 0 x) (drop 1 places) refl))

zero_times : (q : ℕ) → pos 0 *ℤ pos q ≡ pos 0
zero_times q = omega (arith, ints)

each : (quants : List ℕ) (block : List ℤ) (d : ℤ) → d ≡ number_at block 0 *ℤ pos (slice_index quants 0) → ((k : ℕ) → 1 ≤ k → k < 64 → number_at block k ≡ pos 0)
    → (n : ℕ) → n < 64 → value_of quants block n ≡ get_or (d ∷ replicate 63 (pos 0)) n (pos 0)
each quants block d e zeros zero lt = sym e
each quants block d e zeros (suc n) lt =
    let place = index_of (suc n) zigzag in
    let low : place < 64 = omega (arith, sym (place_is (suc n) lt), place_low (suc n) lt) in
    let some : 1 ≤ place = omega (arith, sym (place_is (suc n) lt), place_some n lt) in
    ap (λ v. v *ℤ pos (slice_index quants place)) (zeros place some low) ∙ zero_times (slice_index quants place)
    ∙ sym (get_or-replicate 63 n (pos 0) (pos 0) (omega (arith, lt)))

pub flat_dequantised : (quants : List ℕ) (block : List ℤ) (d : ℤ) → d ≡ number_at block 0 *ℤ pos (slice_index quants 0)
    → ((k : ℕ) → 1 ≤ k → k < 64 → number_at block k ≡ pos 0) → dequantised quants block ≡ d ∷ replicate 63 (pos 0)
unfolding dequantised
flat_dequantised quants block d e zeros = by_items 64 (value_of quants block) (d ∷ replicate 63 (pos 0)) (pos 0) refl (each quants block d e zeros)
