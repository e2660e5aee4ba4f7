-- Any bits are those of a number, and any bits except none are the extra bits of a value.
use Rattle.std.proofs.Common.{◌≡◌, ℕ, zero, suc, ◌+◌, ◌-◌, ◌*◌, ◌^◌, ◌<◌, ◌≤◌, Bool, true, false, cond, List, [], ◌∷◌, ◌++◌, length, refl, sym, ap, ◌∙◌, subst, arith, ℤ, pos, negsuc, add-one, ⊎_elim}
use Rattle.std.proofs.lemmas.Nat.{pow_pos}
use Rattle.std.proofs.lemmas.List.{append_assoc, append-nil}
use Rattle.std.proofs.lemmas.Bool.{cases_lt}
use Rattle.std.proofs.Math.Nat.{pow-succ', pow-le-pow_right}
use Rattle.jpg_spec.specs.Bits.{bits_of, number_from}
use Rattle.jpg_spec.specs.Numbers.{digits, category, extra_bits}
use Rattle.jpg_spec.proofs.Basics.Facts.{below_digits, above_digits}
use Rattle.jpg_spec.proofs.Basics.Strings.{bit_value, bits_of-more}

-- A NUMBER of these bits
number_bits : (l n : ℕ) (bits : List Bool) → n < 2 ^ l → (bits_of (l + length bits) (number_from n bits) ≡ bits_of l n ++ bits) × (number_from n bits < 2 ^ (l + length bits))
number_bits l n [] h = let z : l + 0 ≡ l = omega arith in (ap (λ k. bits_of k n) z ∙ sym (append-nil (bits_of l n)), subst (λ k. n < 2 ^ k) (sym z) h)
number_bits l n (b ∷ bits) h =
    let p : 2 ^ (l + 1) ≡ 2 * 2 ^ l = ap (λ m. 2 ^ m) (add-one l) ∙ pow-succ' 2 l in
    let low = bit_low b in
    let k : 2 * n + bit_value b < 2 ^ (l + 1) = omega (arith, p, low, h) in
    let r = number_bits (l + 1) (2 * n + bit_value b) bits k in
    let z : l + 1 + length bits ≡ l + length (b ∷ bits) = omega arith in
    let same : number_from (2 * n + bit_value b) bits ≡ number_from n (b ∷ bits) = ap (λ k. number_from (2 * n + k) bits) (value_is b) in (
      ap (λ k. bits_of k (number_from n (b ∷ bits))) (sym z) ∙ ap (bits_of (l + 1 + length bits)) (sym same) ∙ r.0 ∙ ap (λ x. x ++ bits) (bits_of-more l n b) ∙ append_assoc (bits_of l n) (b ∷ []) bits,
      subst (λ k. number_from n (b ∷ bits) < 2 ^ k) z (subst (λ m. m < 2 ^ (l + 1 + length bits)) same r.1),
    )
  where
    bit_low : (b : Bool) → bit_value b ≤ 1
    bit_low true = omega arith
    bit_low false = omega arith

    value_is : (b : Bool) → bit_value b ≡ cond b 1 0
    value_is true = refl
    value_is false = refl

pub number_of_bits : (bits : List Bool) → (n : ℕ) × (n < 2 ^ length bits) × (bits_of (length bits) n ≡ bits)
unfolding bits_of
number_of_bits bits =
    let r = number_bits 0 0 bits (pow_pos 0) in
    let z : 0 + length bits ≡ length bits = omega arith in
    (number_from 0 bits, subst (λ k. number_from 0 bits < 2 ^ k) z r.1, ap (λ k. bits_of k (number_from 0 bits)) (sym z) ∙ r.0)

-- HOW MANY DIGITS a number has
powers_order : (a b : ℕ) → 2 ^ a < 2 ^ b → a < b
powers_order a b h =
    ⊎_elim
    (λ (k : a < b). k)
    (λ (k : b ≤ a). (let p : 2 ^ b ≤ 2 ^ a = pow-le-pow_right {n = 2} (omega arith) {i = b} {j = a} (omega arith) in absurd (omega arith)))
    (cases_lt a b)

pub double : (s : ℕ) → 1 ≤ s → 2 ^ s ≡ 2 * 2 ^ (s - 1)
double s some = let e : s ≡ suc (s - 1) = omega arith in ap (λ k. 2 ^ k) e ∙ pow-succ' 2 (s - 1)

pub digits_high : (s n : ℕ) → 1 ≤ s → 2 ^ (s - 1) ≤ n → n < 2 ^ s → digits n ≡ s
digits_high s n some lo hi =
    let p = pow_pos (s - 1) in
    let b = below_digits n in
    let a = above_digits n (omega arith) in
    let q : 2 ^ suc s ≡ 2 * 2 ^ s = pow-succ' 2 s in
    let low = powers_order (s - 1) (digits n) (omega arith) in
    let high = powers_order (digits n) (suc s) (omega arith) in
    omega (arith, low, high)

-- A VALUE of these extra bits
pub value_of_bits : (bits : List Bool) → 1 ≤ length bits → (v : ℤ) × (category v ≡ length bits) × (extra_bits v ≡ bits)
value_of_bits bits some =
    let r = number_of_bits bits in
    let n = r.0 in
    let s = length bits in
    let fits = r.1 in
    let q = double s some in
    let p = pow_pos (s - 1) in
    ⊎_elim
    (λ (k : n < 2 ^ (s - 1)). (let m = 2 ^ s - 1 - n in
    let d : digits m ≡ s = digits_high s m some (omega (arith, q, k)) (omega (arith, q, p)) in
    let back : 2 ^ s - 1 - m ≡ n = omega (arith, fits) in
    negative bits n s m (omega (arith, q, k, p)) d back r.2))
    (λ (k : 2 ^ (s - 1) ≤ n). (let d : digits n ≡ s = digits_high s n some k fits in (pos n, d, ap (λ w. bits_of w n) d ∙ r.2)))
    (cases_lt n (2 ^ (s - 1)))
  where
    negative : (bits : List Bool) (n s m : ℕ) → 1 ≤ m → digits m ≡ s → 2 ^ s - 1 - m ≡ n → bits_of s n ≡ bits → (v : ℤ) × (category v ≡ s) × (extra_bits v ≡ bits)
    negative bits n s zero low d back e = absurd (omega (arith, low))
    negative bits n s (suc m) low d back e =
        let z : m + 1 ≡ suc m = omega arith in
        (negsuc m, d, ap (λ k. bits_of (digits k) (2 ^ digits k - 1 - k)) z ∙ ap (λ w. bits_of w (2 ^ w - 1 - suc m)) d ∙ ap (bits_of s) back ∙ e)
