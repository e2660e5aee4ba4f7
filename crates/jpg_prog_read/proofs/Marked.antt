-- The values of a band that aren't 0, by the bits of a word.
use Rattle.std.proofs.Common.{◌≡◌, ℕ, zero, suc, ◌+◌, ◌-◌, ◌*◌, ◌/◌, ◌%◌, ◌^◌, ◌<◌, ◌≤◌, Bool, true, false, cond, add-one, mul_comm, List, [], ◌∷◌, length, take, drop, map, refl, sym, ap, ◌∙◌, subst, arith, ℤ, pos, negsuc, inl, inr, ◌⊎◌}
use Rattle.std.specs.Int.{trailing_zeros}
use Rattle.std.specs.Int.RustNames.{count_ones}
use Rattle.std.specs.Int.Count.{trailing_of_zero}
use mir.Syntax.{w64}
use Rattle.std.proofs.lemmas.Bool.{cases_lt}
use Rattle.std.proofs.lemmas.List.{length-drop, length-take-le}
use Rattle.std.proofs.lemmas.Nat.{pow_pos, mod-mul-add}
use Rattle.std.proofs.Math.Nat.{pow-succ'}
use Rattle.std.proofs.lemmas.Simd.{ones-mask_l, ones-mask_l_cons, trailing_mask_l, leading_from_mask_l}
use Rattle.jpg_spec.specs.Elements.{zeros_in}
use Rattle.jpg_base.specs.Marks.{is_some, marks}
use Rattle.jpg_base.proofs.Marked.{zeros_first}
use Rattle.jpg_prog_read.specs.ZerosPassed.{ZerosComeNext}

-- only those of the first ones
spread : (c m q r : ℕ) → c + 2 * (m * q + r) ≡ 2 * m * q + (c + 2 * r)
spread c m q r = grind arith

bit_most : (b : Bool) → cond b 1 0 ≤ 1
bit_most true = omega arith
bit_most false = omega arith

low : (b : Bool) (n m : ℕ) → 0 < m → (cond b 1 0 + 2 * n) % (2 * m) ≡ cond b 1 0 + 2 * (n % m)
low b n m some =
    let whole : n ≡ m * (n / m) + n % m = omega arith in
    let short : n % m < m = omega (arith, some) in
    let all : cond b 1 0 + 2 * n ≡ 2 * m * (n / m) + (cond b 1 0 + 2 * (n % m)) = ap (λ x. cond b 1 0 + 2 * x) whole ∙ spread (cond b 1 0) m (n / m) (n % m) in
    let less : cond b 1 0 + 2 * (n % m) < 2 * m = omega (arith, bit_most b, short) in
    ap (λ x. x % (2 * m)) (all ∙ ap (λ x. x + (cond b 1 0 + 2 * (n % m))) (mul_comm (2 * m) (n / m))) ∙ mod-mul-add (n / m) (2 * m) (cond b 1 0 + 2 * (n % m)) less

pub marks_first : (values : List ℤ) (n : ℕ) → marks values % 2 ^ n ≡ marks (take n values)
marks_first values zero = omega arith
marks_first [] (suc n) = grind arith
marks_first (v ∷ values) (suc n) = ap (λ m. marks (v ∷ values) % m) (ap (λ k. 2 ^ k) (let s : suc n ≡ n + 1 = omega arith in s) ∙ ap (λ k. 2 ^ k) (add-one n) ∙ pow-succ' 2 n) ∙ low (is_some v) (marks values) (2 ^ n) (pow_pos n) ∙ ap (λ m. cond (is_some v) 1 0 + 2 * m) (marks_first values n)

-- the zeros are those that aren't marked
pub zeros_counted : (values : List ℤ) → zeros_in values + count_ones (marks values) ≡ length values
zeros_counted [] = omega (arith, ones-mask_l is_some [])
zeros_counted (pos zero ∷ values) = omega (arith, zeros_counted values, ones-mask_l_cons false (map is_some values))
zeros_counted (pos (suc n) ∷ values) = omega (arith, zeros_counted values, ones-mask_l_cons true (map is_some values))
zeros_counted (negsuc n ∷ values) = omega (arith, zeros_counted values, ones-mask_l_cons true (map is_some values))

pub zeros_marked : (values : List ℤ) (at most olds : ℕ) → length values ≡ 64 → most ≤ 64 → olds ≡ marks (drop at values) → zeros_in (take (most - at) (drop at values)) + count_ones (olds % 2 ^ (most - at)) ≡ most - at
zeros_marked values at most olds long few is =
    let rest = take (most - at) (drop at values) in
    let l : length rest ≡ most - at = length-take-le (most - at) (drop at values) (omega (arith, length-drop at values, long, few)) in
    let m : olds % 2 ^ (most - at) ≡ marks rest = ap (λ n. n % 2 ^ (most - at)) is ∙ marks_first (drop at values) (most - at) in
    omega (arith, zeros_counted rest, l, ap count_ones m)

-- THE LEADING ZEROS

one_more : (n : ℕ) (rest : List ℤ) → ZerosComeNext n rest → ZerosComeNext (suc n) (pos 0 ∷ rest)
one_more n rest more = record { within = omega (arith, more.within); next = ap (λ (l : List ℤ). pos 0 ∷ l) more.next; last = λ h. more.last (omega (arith, h)) }

pub come_next : (rest : List ℤ) → ZerosComeNext (zeros_first rest) rest
come_next [] = record { within = omega arith; next = refl; last = λ h. absurd (omega (arith, h)) }
come_next (pos zero ∷ rest) =
    let more = come_next rest in
    let e : zeros_first (pos 0 ∷ rest) ≡ suc (zeros_first rest) = omega arith in
    subst (λ n. ZerosComeNext n (pos 0 ∷ rest)) (sym e) (one_more (zeros_first rest) rest more)
come_next (pos (suc n) ∷ rest) = record { within = omega arith; next = refl; last = λ h. refl }
come_next (negsuc n ∷ rest) = record { within = omega arith; next = refl; last = λ h. refl }

-- up to the values that were examined
first_taken : (values : List ℤ) (left : ℕ) → left ≤ length values → zeros_first (take left values) ≤ left × (zeros_first values < left → zeros_first (take left values) ≡ zeros_first values) × (left ≤ zeros_first values → zeros_first (take left values) ≡ left)
first_taken values zero few = (omega arith, λ h. absurd (omega (arith, h)), λ h. omega arith)
first_taken [] (suc left) few = absurd (omega (arith, few))
first_taken (pos zero ∷ values) (suc left) few =
    let more = first_taken values left (omega (arith, few)) in
    (omega (arith, more.0), λ h. omega (arith, more.1 (omega (arith, h))), λ h. omega (arith, more.2 (omega (arith, h))))
first_taken (pos (suc n) ∷ values) (suc left) few = (omega arith, λ h. refl, λ h. absurd (omega (arith, h)))
first_taken (negsuc n ∷ values) (suc left) few = (omega arith, λ h. refl, λ h. absurd (omega (arith, h)))

-- the place of the lowest mark
first_marked : (values : List ℤ) (left word : ℕ) → length values ≤ 64 → left ≤ length values → word ≡ marks values → (trailing_zeros w64 word < left → zeros_first values ≡ trailing_zeros w64 word) × (left ≤ trailing_zeros w64 word → left ≤ zeros_first values)
first_marked values left word long few is = by (nat_cases word)
  where
    nat_cases : (n : ℕ) → (n ≡ 0) ⊎ (0 < n)
    nat_cases zero = inl refl
    nat_cases (suc n) = inr (omega arith)

    by : (word ≡ 0) ⊎ (0 < word) → (trailing_zeros w64 word < left → zeros_first values ≡ trailing_zeros w64 word) × (left ≤ trailing_zeros w64 word → left ≤ zeros_first values)
    by (inl none) =
        let all : zeros_first values ≡ length values = leading_from_mask_l is_some values (sym is ∙ none) in
        let t : trailing_zeros w64 word ≡ 64 = ap (trailing_zeros w64) none ∙ trailing_of_zero 64 in
        (λ h. absurd (omega (arith, h, t, long, few)), λ h. omega (arith, all, few))
    by (inr some) =
        let t : trailing_zeros w64 word ≡ zeros_first values = ap (trailing_zeros w64) is ∙ trailing_mask_l is_some 64 values long (subst (λ n. 0 < n) is some) in
        (λ h. sym t, λ h. omega (arith, h, t))

pub zeros_found : (values : List ℤ) (left word n : ℕ) → length values ≤ 64 → left ≤ length values → word ≡ marks values → (trailing_zeros w64 word < left → n ≡ trailing_zeros w64 word) → (left ≤ trailing_zeros w64 word → n ≡ left) → ZerosComeNext n (take left values)
zeros_found values left word n long few is near far = subst (λ m. ZerosComeNext m (take left values)) (sym (same (cases_lt (trailing_zeros w64 word) left))) (come_next (take left values))
  where
    m : (trailing_zeros w64 word < left → zeros_first values ≡ trailing_zeros w64 word) × (left ≤ trailing_zeros w64 word → left ≤ zeros_first values)
    m = first_marked values left word long few is

    t : zeros_first (take left values) ≤ left × (zeros_first values < left → zeros_first (take left values) ≡ zeros_first values) × (left ≤ zeros_first values → zeros_first (take left values) ≡ left)
    t = first_taken values left few

    same : (trailing_zeros w64 word < left) ⊎ (left ≤ trailing_zeros w64 word) → n ≡ zeros_first (take left values)
    same (inl h) = near h ∙ sym (m.0 h) ∙ sym (t.1 (omega (arith, h, m.0 h)))
    same (inr h) = far h ∙ sym (t.2 (m.1 h))
