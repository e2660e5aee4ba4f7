-- The number that extra bits encode, by how much they exceed it.
use Rattle.std.proofs.Common.{◌≡◌, ℕ, zero, suc, ◌-◌, ◌*◌, ◌^◌, ◌<◌, ◌≤◌, refl, sym, ap, ◌∙◌, subst, arith, pos, ◌-ℤ◌, ⊎_elim}
use Rattle.std.proofs.lemmas.Bool.{cases_lt}
use Rattle.jpg_spec.specs.Bits.{bits_of}
use Rattle.jpg_spec.specs.Numbers.{digits, category, extra_bits}
use Rattle.jpg_spec.proofs.Bits.ExtraBits.{digits_high, double}
use Rattle.jpg_huff.proofs.Categories.{category_negative, digits_low, extra_low, lowered_by_none, lowered_below}

none_is : (n : ℕ) → n < 2 ^ 0 → (category (pos n -ℤ pos 0) ≡ 0) × (extra_bits (pos n -ℤ pos 0) ≡ bits_of 0 n)
unfolding digits bits_of
none_is zero h = (refl, refl)
none_is (suc n) h = absurd (omega (arith, h))

-- from the upper half of the numbers of so many bits, and from the lower half
high_is : (s n : ℕ) → 1 ≤ s → 2 ^ (s - 1) ≤ n → n < 2 ^ s → (category (pos n -ℤ pos 0) ≡ s) × (extra_bits (pos n -ℤ pos 0) ≡ bits_of s n)
high_is s n some h fits =
    let d = digits_high s n some h fits in
    (ap category (lowered_by_none n) ∙ d, ap extra_bits (lowered_by_none n) ∙ ap (λ k. bits_of k n) d)

low_is : (s n : ℕ) → 1 ≤ s → n < 2 ^ (s - 1) → n < 2 ^ s
    → (category (pos n -ℤ pos (2 ^ s - 1)) ≡ s) × (extra_bits (pos n -ℤ pos (2 ^ s - 1)) ≡ bits_of s n)
low_is s n some h fits =
    let e = lowered_below n (2 ^ s - 1) (omega (arith, fits)) in
    (ap category e ∙ category_negative (2 ^ s - 1 - n) ∙ digits_low s n some h, ap extra_bits e ∙ extra_low s n some h)

pub extended : (s n excess : ℕ) → n < 2 ^ s → (2 ^ s ≤ 2 * n → excess ≡ 0) → (2 * n < 2 ^ s → excess ≡ 2 ^ s - 1)
    → (category (pos n -ℤ pos excess) ≡ s) × (extra_bits (pos n -ℤ pos excess) ≡ bits_of s n)
extended zero n excess fits high low =
    let z : excess ≡ 0 = low (omega (arith, fits)) in
    subst (λ k. (category (pos n -ℤ pos k) ≡ 0) × (extra_bits (pos n -ℤ pos k) ≡ bits_of 0 n)) (sym z) (none_is n fits)
extended (suc t) n excess fits high low =
    let s = suc t in
    let q = double s (omega arith) in
    ⊎_elim
    (λ (k : 2 * n < 2 ^ s). subst (λ m. (category (pos n -ℤ pos m) ≡ s) × (extra_bits (pos n -ℤ pos m) ≡ bits_of s n)) (sym (low k)) (low_is s n (omega arith) (omega (arith, q, k)) fits))
    (λ (k : 2 ^ s ≤ 2 * n). subst (λ m. (category (pos n -ℤ pos m) ≡ s) × (extra_bits (pos n -ℤ pos m) ≡ bits_of s n)) (sym (high k)) (high_is s n (omega arith) (omega (arith, q, k)) fits))
    (cases_lt (2 * n) (2 ^ s))
