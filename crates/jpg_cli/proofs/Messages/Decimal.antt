-- The decimal digits of a number, from the last one on.
use Rattle.std.proofs.Common.{◌≡◌, ℕ, zero, suc, ◌+◌, ◌-◌, ◌*◌, ◌/◌, ◌%◌, ◌^◌, ◌<◌, ◌≤◌, true, false, cond, List, [], ◌∷◌, length, drop, set, refl, sym, ap, ◌∙◌, arith, add-one, ◌==◌}
use Rattle.std.proofs.lemmas.Bool.Decides.{nat_tests}
use Rattle.std.proofs.Math.Nat.{pow-succ'}
use Rattle.std.specs.Fmt.{digits_onto, digit_glyph, digits, decimal}

glyph : (d : ℕ) → d < 10 → digit_glyph false d ≡ 48 + d
glyph d h = grind (arith, nat_tests)

pub more : (k n : ℕ) (acc : List ℕ) → 10 ≤ n → digits_onto (k + 1) 10 false n acc ≡ digits_onto k 10 false (n / 10) ((48 + n % 10) ∷ acc)
more k n acc h =
    let t : (n / 10 == 0) ≡ false = grind (arith, nat_tests) in
    let g : digit_glyph false (n % 10) ≡ 48 + n % 10 = glyph (n % 10) (omega arith) in
    ap (λ m. digits_onto m 10 false n acc) (add-one k) ∙ ap (λ b. cond b (digit_glyph false (n % 10) ∷ acc) (digits_onto k 10 false (n / 10) (digit_glyph false (n % 10) ∷ acc))) t
    ∙ ap (λ d. digits_onto k 10 false (n / 10) (d ∷ acc)) g

pub last : (k n : ℕ) (acc : List ℕ) → n < 10 → digits_onto (k + 1) 10 false n acc ≡ (48 + n) ∷ acc
last k n acc h =
    let t : (n / 10 == 0) ≡ true = grind (arith, nat_tests) in
    let m : n % 10 ≡ n = omega arith in
    let g : digit_glyph false (n % 10) ≡ 48 + n = ap (digit_glyph false) m ∙ glyph n h in
    ap (λ m. digits_onto m 10 false n acc) (add-one k) ∙ ap (λ b. cond b (digit_glyph false (n % 10) ∷ acc) (digits_onto k 10 false (n / 10) (digit_glyph false (n % 10) ∷ acc))) t
    ∙ ap (λ d. d ∷ acc) g

-- a digit put into the last free place
pub put_digit : (xs : List ℕ) (i d : ℕ) → i < length xs → drop i (set xs i d) ≡ d ∷ drop (i + 1) xs
put_digit [] i d h = absurd (omega arith)
put_digit (x ∷ xs) zero d h = refl
put_digit (x ∷ xs) (suc i) d h = put_digit xs i d (omega arith) ∙ ap (λ m. d ∷ drop m (x ∷ xs)) (let e : suc (i + 1) ≡ suc i + 1 = omega arith in e)

pub whole : (n : ℕ) → digits_onto 64 10 false n [] ≡ decimal n
unfolding digits
whole n = refl

pub fewer : (n f : ℕ) → n < 10 ^ (f + 1) → n / 10 < 10 ^ f
fewer n f h = let p : 10 ^ (f + 1) ≡ 10 * 10 ^ f = ap (λ m. 10 ^ m) (add-one f) ∙ pow-succ' 10 f in omega (arith, p)

pub at_least_one : (n f : ℕ) → 10 ≤ n → n < 10 ^ f → 2 ≤ f
at_least_one n zero h l = let p : n < 1 = l in omega arith
at_least_one n (suc zero) h l = let p : n < 10 = l in omega arith
at_least_one n (suc (suc f)) h l = omega arith

-- one more digit
pub step : (places : List ℕ) (free n number : ℕ) → length places ≡ 20 → free ≤ 20 → 10 ≤ n → n < 10 ^ free → 1 ≤ free → digits_onto (44 + free) 10 false n (drop free places) ≡ decimal number
    → digits_onto (44 + (free - 1)) 10 false (n / 10) (drop (free - 1) (set places (free - 1) (48 + n % 10))) ≡ decimal number
step places free n number long most ten small some e =
    let back : free - 1 + 1 ≡ free = omega arith in
    let k : 44 + (free - 1) + 1 ≡ 44 + free = omega arith in
    ap (digits_onto (44 + (free - 1)) 10 false (n / 10)) (put_digit places (free - 1) (48 + n % 10) (omega arith) ∙ ap (λ m. (48 + n % 10) ∷ drop m places) back)
    ∙ sym (more (44 + (free - 1)) n (drop free places) ten) ∙ ap (λ m. digits_onto m 10 false n (drop free places)) k ∙ e

-- the first digit
pub done : (places : List ℕ) (free n number : ℕ) → length places ≡ 20 → free ≤ 20 → n < 10 → 1 ≤ free → digits_onto (44 + free) 10 false n (drop free places) ≡ decimal number
    → drop (free - 1) (set places (free - 1) (48 + n)) ≡ decimal number
done places free n number long most small some e =
    let back : free - 1 + 1 ≡ free = omega arith in
    let k : 44 + (free - 1) + 1 ≡ 44 + free = omega arith in
    put_digit places (free - 1) (48 + n) (omega arith) ∙ ap (λ m. (48 + n) ∷ drop m places) back
    ∙ sym (last (44 + (free - 1)) n (drop free places) small) ∙ ap (λ m. digits_onto m 10 false n (drop free places)) k ∙ e
