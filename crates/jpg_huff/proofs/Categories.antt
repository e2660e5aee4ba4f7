-- Numbers of a category: how many digits they have, and their extra bits.
use Rattle.std.proofs.Common.{◌≡◌, ℕ, zero, suc, ◌+◌, ◌-◌, ◌*◌, ◌%◌, ◌^◌, ◌<◌, ◌≤◌, Bool, refl, sym, ap, ◌∙◌, subst, arith, pos, neg_ℤ, ◌-ℤ◌, add-one, ⊎_elim}
use Rattle.std.proofs.lemmas.Bool.{cases_lt}
use Rattle.std.proofs.lemmas.Int.{ints}
use lib.Count.{count_leading_zeros}
use Rattle.std.proofs.lemmas.Nat.{leading_top, one_shl, pow_pos}
use Rattle.std.proofs.Math.Nat.{pow-succ'}
use Rattle.jpg_spec.specs.Bits.{bits_of}
use Rattle.jpg_spec.specs.Numbers.{digits, category, extra_bits}
use Rattle.jpg_spec.proofs.Basics.Facts.{below_digits}
use Rattle.jpg_spec.proofs.Basics.Strings.{bit_value}
use Rattle.jpg_spec.proofs.Bits.ExtraBits.{digits_high, double}
use Rattle.jpg_huff.proofs.Levels.{bit_small}

-- the digits of a number of 32 bits, counted with a 1 behind it
digits_by : (j n : ℕ) → 2 ^ j ≤ 2 * n + 1 → 2 * n + 1 < 2 ^ suc j → j ≡ digits n
unfolding digits
digits_by zero zero low high = refl
digits_by zero (suc n) low high = absurd (omega (arith, high))
digits_by (suc j) n low high =
    let q = double (suc j) (omega arith) in
    let r = double (suc (suc j)) (omega arith) in
    let same : suc j - 1 ≡ j = omega arith in
    let low : 2 ^ (suc j - 1) ≤ n = omega (arith, q, low) in
    sym (digits_high (suc j) n (omega arith) low (omega (arith, r, high)))

pub digits_counted : (n : ℕ) → n < 2 ^ 32 → 63 - count_leading_zeros 64 (2 * n + 1) ≡ digits n
digits_counted n h =
    let t = leading_top 64 (2 * n + 1) (omega arith) (omega (arith, h)) in
    let e : 63 - count_leading_zeros 64 (2 * n + 1) ≡ t.0 = omega (arith, t.1) in
    e ∙ digits_by t.0 n t.2 t.3

-- a number of 32 bits is below 2 to the number of its digits
pub shifted_fits : (m d n : ℕ) → n ≡ m → d ≡ digits m → d ≤ 32 → n ≤ 1 * 2 ^ d % 18446744073709551616 - 1
shifted_fits m d n e f l =
    let s : 1 * 2 ^ d % 18446744073709551616 ≡ 2 ^ d = one_shl d 64 (omega arith) in
    let b : m < 2 ^ d = subst (λ k. m < 2 ^ k) (sym f) (below_digits m) in
    omega (arith, s, b, e)

-- the lower half of the extra bits encodes negative numbers
pub digits_low : (s n : ℕ) → 1 ≤ s → n < 2 ^ (s - 1) → digits (2 ^ s - 1 - n) ≡ s
digits_low s n some h =
    let q = double s some in
    let p = pow_pos (s - 1) in
    digits_high s (2 ^ s - 1 - n) some (omega (arith, q, h)) (omega (arith, q, p))

pub category_negative : (m : ℕ) → category (neg_ℤ (pos m)) ≡ digits m
category_negative zero = refl
category_negative (suc n) = refl

extra_negative : (m : ℕ) → 1 ≤ m → extra_bits (neg_ℤ (pos m)) ≡ bits_of (digits m) (2 ^ digits m - 1 - m)
extra_negative zero h = absurd (omega arith)
extra_negative (suc n) h = ap (λ k. bits_of (digits k) (2 ^ digits k - 1 - k)) (add-one n)

pub extra_low : (s n : ℕ) → 1 ≤ s → n < 2 ^ (s - 1) → extra_bits (neg_ℤ (pos (2 ^ s - 1 - n))) ≡ bits_of s n
extra_low s n some h =
    let q = double s some in
    let back : 2 ^ s - 1 - (2 ^ s - 1 - n) ≡ n = omega arith in
    extra_negative (2 ^ s - 1 - n) (omega arith) ∙ ap (λ k. bits_of k (2 ^ k - 1 - (2 ^ s - 1 - n))) (digits_low s n some h) ∙ ap (bits_of s) back

-- one more extra bit
pub fits_more : (n have : ℕ) (b : Bool) → n < 2 ^ have → 2 * n + bit_value b < 2 ^ (have + 1)
fits_more n have b h =
    let p : 2 ^ (have + 1) ≡ 2 * 2 ^ have = ap (λ m. 2 ^ m) (add-one have) ∙ pow-succ' 2 have in
    let q : bit_value b ≤ 1 = bit_small b in
    omega arith

-- differences of numbers
pub lowered_by_none : (n : ℕ) → pos n -ℤ pos 0 ≡ pos n
lowered_by_none n = omega (arith, ints)

pub lowered_below : (n m : ℕ) → n ≤ m → pos n -ℤ pos m ≡ neg_ℤ (pos (m - n))
lowered_below n m h = omega (arith, ints, h)

-- a number, or nothing of it
pub kept_or_not : (ones t : ℕ) → ones < 32768 → ones * (1 - t) < 32768
kept_or_not ones zero h = omega (arith, h)
kept_or_not ones (suc t) h =
    let none : 1 - suc t ≡ 0 = omega arith in
    subst (λ k. ones * k < 32768) (sym none) (omega arith)

-- the number that is lowered by all ones where its first bit is 0
extended_some : (s n d : ℕ) → 1 ≤ s → n < 2 ^ s → (2 ^ s ≤ 2 * n → d ≡ 0) → (2 * n < 2 ^ s → d ≡ 2 ^ s - 1) → (category (pos n -ℤ pos d) ≡ s) × (extra_bits (pos n -ℤ pos d) ≡ bits_of s n)
extended_some s n d some fits high low =
    let q = double s some in
    ⊎_elim
    (λ (a : 2 * n < 2 ^ s). (let less : n < 2 ^ (s - 1) = omega (arith, q, a) in
    let v : pos n -ℤ pos d ≡ neg_ℤ (pos (2 ^ s - 1 - n)) = ap (λ k. pos n -ℤ pos k) (low a) ∙ lowered_below n (2 ^ s - 1) (omega (arith, fits)) in
    (ap category v ∙ category_negative (2 ^ s - 1 - n) ∙ digits_low s n some less, ap extra_bits v ∙ extra_low s n some less)))
    (λ (b : 2 ^ s ≤ 2 * n). (let v : pos n -ℤ pos d ≡ pos n = ap (λ k. pos n -ℤ pos k) (high b) ∙ lowered_by_none n in
    let e = digits_high s n some (omega (arith, q, b)) fits in
    (ap category v ∙ e, ap extra_bits v ∙ ap (λ k. bits_of k n) e)))
    (cases_lt (2 * n) (2 ^ s))

-- of no bits it is 0
extended_none : (n d : ℕ) → n ≡ 0 → d ≡ 0 → (category (pos n -ℤ pos d) ≡ 0) × (extra_bits (pos n -ℤ pos d) ≡ bits_of 0 n)
unfolding digits bits_of
extended_none n d z e =
    let v : pos n -ℤ pos d ≡ pos 0 = ap (λ k. pos k -ℤ pos d) z ∙ ap (λ k. pos 0 -ℤ pos k) e in
    (ap category v, ap extra_bits v)

pub extended : (s n d : ℕ) → n < 2 ^ s → (2 ^ s ≤ 2 * n → d ≡ 0) → (2 * n < 2 ^ s → d ≡ 2 ^ s - 1) → (category (pos n -ℤ pos d) ≡ s) × (extra_bits (pos n -ℤ pos d) ≡ bits_of s n)
extended zero n d fits high low =
    let z : n ≡ 0 = omega (arith, fits) in
    extended_none n d z (low (omega (arith, z)))
extended (suc t) n d fits high low = extended_some (suc t) n d (omega arith) fits high low
