-- Categories, extra bits and EOB bits distinguish numbers.
use Rattle.std.proofs.Common.{◌≡◌, ℕ, zero, suc, ◌+◌, ◌-◌, ◌*◌, ◌/◌, ◌%◌, ◌^◌, ◌<◌, ◌≤◌, Bool, true, false, [], ◌∷◌, ◌++◌, length, refl, sym, ap, ◌∙◌, subst, arith, add-one, ℤ, pos, negsuc, ⊎_elim, ◌==◌, ◌≢◌}
use Rattle.std.proofs.lemmas.Bool.{cases_eq}
use Rattle.std.proofs.lemmas.Bool.Decides.{nat_tests}
use Rattle.std.proofs.Math.Nat.{pow-succ'}
use Rattle.jpg_spec.specs.Bits.{bits_of}
use Rattle.jpg_spec.specs.Numbers.{digits_of, digits, category, extra_bits}
use Rattle.jpg_spec.proofs.Basics.Strings.{length-bits_of, bits_of_inj}
use Rattle.jpg_spec.proofs.Bits.Once.{NumberFacts}

digits_zero : (most : ℕ) → digits_of most 0 ≡ 0
digits_zero zero = refl
digits_zero (suc most) = refl

not_zero : (most n : ℕ) → n ≢ 0 → digits_of (suc most) n ≡ suc (digits_of most (n / 2))
not_zero most n h = let e : (n == 0) ≡ false = grind (arith, nat_tests) in
    ap (λ (b : Bool). (let r : ℕ = elim b [ true ↦ 0 | false ↦ suc (digits_of most (n / 2)) ] in r)) e

-- n has its digits: it is below 2 to their number, and not below half of that
bounds_of_digits : (most n : ℕ) → n ≤ most → (n < 2 ^ digits_of most n) × (1 ≤ n → 2 ^ digits_of most n ≤ 2 * n)
bounds_of_digits zero n h = (omega arith, λ k. (let f : ⊥ = omega arith in absurd f))
bounds_of_digits (suc most) n h =
    ⊎_elim
    (λ (e : n ≡ 0). (let z : digits_of (suc most) n ≡ 0 = ap (digits_of (suc most)) e in
    let p : 2 ^ digits_of (suc most) n ≡ 1 = ap (λ k. 2 ^ k) z in (omega (arith, p), λ k. (let f : ⊥ = omega arith in absurd f))))
    (λ (e : n ≢ 0). (let d = digits_of most (n / 2) in
    let r = bounds_of_digits most (n / 2) (omega arith) in
    let z = not_zero most n e in
    let p : 2 ^ digits_of (suc most) n ≡ 2 * 2 ^ d = ap (λ k. 2 ^ k) z ∙ pow-succ' 2 d in
    let low : 1 ≤ n → 2 ^ digits_of (suc most) n ≤ 2 * n = λ k. ⊎_elim
    (λ (q : n / 2 ≡ 0). (let dz : d ≡ 0 = ap (digits_of most) q ∙ digits_zero most in let p1 : 2 ^ d ≡ 1 = ap (λ t. 2 ^ t) dz in omega (arith, p, p1)))
    (λ (q : n / 2 ≢ 0). (let l = r.1 (omega arith) in omega (arith, p, l)))
    (cases_eq (n / 2) 0) in
    (omega (arith, p, r.0), low)))
    (cases_eq n 0)

pub below_digits : (n : ℕ) → n < 2 ^ digits n
unfolding digits
below_digits n = (bounds_of_digits n n (omega arith)).0

pub above_digits : (n : ℕ) → 1 ≤ n → 2 ^ digits n ≤ 2 * n
unfolding digits
above_digits n h = (bounds_of_digits n n (omega arith)).1 h

pub some_digits : (n : ℕ) → 1 ≤ n → 1 ≤ digits n
some_digits n h = ⊎_elim (λ (e : digits n ≡ 0). (let p : 2 ^ digits n ≡ 1 = ap (λ k. 2 ^ k) e in let b = below_digits n in let f : ⊥ = omega (arith, p, b) in absurd f)) (λ (e : digits n ≢ 0). omega arith) (cases_eq (digits n) 0)

no_digits : (n : ℕ) → 1 ≤ digits n → 1 ≤ n
unfolding digits
no_digits zero h = h
no_digits (suc n) h = omega arith

-- a further top bit doesn't change the bits below
pub bits_high : (d y : ℕ) → bits_of d (2 ^ d + y) ≡ bits_of d y
unfolding bits_of
bits_high zero y = refl
bits_high (suc d) y =
    let p : 2 ^ suc d ≡ 2 * 2 ^ d = pow-succ' 2 d in
    let q : (2 ^ suc d + y) / 2 ≡ 2 ^ d + y / 2 = omega (arith, p) in
    let r : (2 ^ suc d + y) % 2 ≡ y % 2 = omega (arith, p) in
    ap (λ k. bits_of d k ++ ((2 ^ suc d + y) % 2 == 1) ∷ []) q ∙ ap (λ k. k ++ ((2 ^ suc d + y) % 2 == 1) ∷ []) (bits_high d (y / 2)) ∙ ap (λ k. bits_of d (y / 2) ++ (k == 1) ∷ []) r

-- a number is its top bit and what is below
pub top : (b : ℕ) → 1 ≤ b → (b ≡ 2 ^ (digits b - 1) + (b - 2 ^ (digits b - 1))) × (b - 2 ^ (digits b - 1) < 2 ^ (digits b - 1))
top b h =
    let s = some_digits b h in
    let e : digits b ≡ suc (digits b - 1) = omega arith in
    let p : 2 ^ digits b ≡ 2 * 2 ^ (digits b - 1) = ap (λ k. 2 ^ k) e ∙ pow-succ' 2 (digits b - 1) in
    let l = below_digits b in
    let u = above_digits b h in
    (omega (arith, p, l, u), omega (arith, p, l, u))

-- a positive number and a negative one have other bits
cross : (n m : ℕ) → digits n ≡ digits (m + 1) → bits_of (digits n) n ≡ bits_of (digits (m + 1)) (2 ^ digits (m + 1) - 1 - (m + 1)) → ⊥
cross n m c e =
    let s = some_digits (m + 1) (omega arith) in
    let l = below_digits (m + 1) in
    let u = above_digits (m + 1) (omega arith) in
    let k : n < 2 ^ digits (m + 1) = subst (λ t. n < 2 ^ t) c (below_digits n) in
    let k' : 2 ^ digits (m + 1) ≤ 2 * n = subst (λ t. 2 ^ t ≤ 2 * n) c (above_digits n (no_digits n (omega arith))) in
    let same : n ≡ 2 ^ digits (m + 1) - 1 - (m + 1) = bits_of_inj (digits (m + 1)) n (2 ^ digits (m + 1) - 1 - (m + 1)) k (omega (arith, l)) (ap (λ t. bits_of t n) (sym c) ∙ e) in
    omega (arith, same, l, u, k')

-- two negative numbers have other bits
negatives : (n m : ℕ) → digits (n + 1) ≡ digits (m + 1) → bits_of (digits (n + 1)) (2 ^ digits (n + 1) - 1 - (n + 1)) ≡ bits_of (digits (m + 1)) (2 ^ digits (m + 1) - 1 - (m + 1)) → n ≡ m
negatives n m c e =
    let l = below_digits (m + 1) in
    let k : n + 1 < 2 ^ digits (m + 1) = subst (λ t. n + 1 < 2 ^ t) c (below_digits (n + 1)) in
    let e' : bits_of (digits (m + 1)) (2 ^ digits (m + 1) - 1 - (n + 1)) ≡ bits_of (digits (m + 1)) (2 ^ digits (m + 1) - 1 - (m + 1)) = ap (λ t. bits_of t (2 ^ t - 1 - (n + 1))) (sym c) ∙ e in
    let same = bits_of_inj (digits (m + 1)) (2 ^ digits (m + 1) - 1 - (n + 1)) (2 ^ digits (m + 1) - 1 - (m + 1)) (omega (arith, k)) (omega (arith, l)) e' in
    omega (arith, same, k, l)

pub facts : NumberFacts
unfolding bits_of
facts = record {
  size = size;
  apart = apart;
  bits = length-bits_of;
  some = some_digits;
  run = run;
  bands = bands;
}
  where
    size : (v : ℤ) → length (extra_bits v) ≡ category v
    size (pos n) = length-bits_of (digits n) n
    size (negsuc n) = length-bits_of (digits (n + 1)) _ ∙ ap digits (add-one n)

    run : (b x : ℕ) → 1 ≤ b → x < 2 ^ (digits b - 1) → bits_of (digits b - 1) x ≡ bits_of (digits b - 1) b → b ≡ 2 ^ (digits b - 1) + x
    run b x h l e =
        let t = top b h in
        let d = digits b - 1 in
        let y = b - 2 ^ d in
        let same : x ≡ y = bits_of_inj d x y l t.1 (e ∙ ap (bits_of d) t.0 ∙ bits_high d y) in
        omega (arith, t.0, same)

    bands : (m n : ℕ) → 1 ≤ m → 1 ≤ n → digits m ≡ digits n → bits_of (digits m - 1) m ≡ bits_of (digits n - 1) n → m ≡ n
    bands m n hm hn e s =
        let t = top n hn in
        let d = digits n - 1 in
        let y = n - 2 ^ d in
        let ed : digits m - 1 ≡ d = ap (λ k. k - 1) e in
        let low : y < 2 ^ (digits m - 1) = subst (λ k. y < 2 ^ k) (sym ed) t.1 in
        let same : bits_of (digits m - 1) y ≡ bits_of (digits m - 1) m = ap (λ k. bits_of k y) ed ∙ sym (bits_high d y) ∙ sym (ap (bits_of d) t.0) ∙ sym s in
        run m y hm low same ∙ ap (λ k. 2 ^ k + y) ed ∙ sym t.0

    apart : (v w : ℤ) → category v ≡ category w → extra_bits v ≡ extra_bits w → v ≡ w
    apart (pos n) (pos m) c e =
        let l = below_digits n in
        let k : m < 2 ^ digits n = subst (λ t. m < 2 ^ t) (sym c) (below_digits m) in
        ap pos (bits_of_inj (digits n) n m l k (e ∙ ap (λ t. bits_of t m) (sym c)))
    apart (pos n) (negsuc m) c e = absurd (cross n m (c ∙ ap digits (sym (add-one m))) e)
    apart (negsuc n) (pos m) c e = absurd (cross m n (sym c ∙ ap digits (sym (add-one n))) (sym e))
    apart (negsuc n) (negsuc m) c e = ap negsuc (negatives n m (ap digits (add-one n) ∙ c ∙ ap digits (sym (add-one m))) e)
