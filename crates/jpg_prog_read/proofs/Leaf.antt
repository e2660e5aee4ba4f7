-- The values of a block that are done and left, one after another.
use Rattle.std.proofs.Common.{◌≡◌, ℕ, zero, suc, ◌+◌, ◌-◌, ◌<◌, ◌≤◌, ◌==◌, true, List, [], ◌∷◌, ◌++◌, length, take, drop, set, get_or, refl, sym, ap, ◌∙◌, arith, ℤ, pos, ⊎_elim}
use Rattle.std.proofs.lemmas.Bool.{cases_lt}
use Rattle.std.proofs.lemmas.List.{length-take-le, take-take, drop-drop, take-append-drop, drop_more, drop-take}
use Rattle.std.proofs.lemmas.Grind.{take-set_at}
use Rattle.jpg_spec.specs.Lists.{is_empty}
use Rattle.jpg_spec.specs.Elements.{is_zero}
use Rattle.jpg_spec.proofs.Basics.Common.{not_same}

-- what is left begins with the value at its place
pub rest_more : (values : List ℤ) (at most : ℕ) → most ≤ length values → at < most → take (most - at) (drop at values) ≡ get_or values at (pos 0) ∷ take (most - (at + 1)) (drop (at + 1) values)
rest_more values at most l h =
    let e : most - at ≡ suc (most - (at + 1)) = omega arith in
    ap (λ n. take n (drop at values)) e ∙ ap (take (suc (most - (at + 1)))) (drop_more values at (pos 0) (omega arith))

-- after a place that is written
pub drop_after : {X : Type 0} → (xs : List X) (i : ℕ) (y : X) → i < length xs → drop (i + 1) (set xs i y) ≡ drop (i + 1) xs
drop_after [] i y h = absurd (omega arith)
drop_after (x ∷ xs) zero y h = refl
drop_after (x ∷ xs) (suc i) y h = let e : suc i + 1 ≡ suc (i + 1) = omega arith in ap (λ n. drop n (x ∷ set xs i y)) e ∙ drop_after xs i y (omega arith) ∙ sym (ap (λ n. drop n (x ∷ xs)) e)

-- the value at a place is written
pub put_rest : (values : List ℤ) (at most : ℕ) (v : ℤ) → most ≤ length values → at < most → take (most - (at + 1)) (drop (at + 1) (set values at v)) ≡ drop 1 (take (most - at) (drop at values))
put_rest values at most v l h =
    ap (take (most - (at + 1))) (drop_after values at v (omega arith)) ∙ sym (ap (drop 1) (rest_more values at most l h))

pub put_done : (values : List ℤ) (start at : ℕ) (v : ℤ) → at < length values → start ≤ at → take (at + 1 - start) (drop start (set values at v)) ≡ take (at - start) (drop start values) ++ v ∷ []
put_done values start at v h le =
    let a : start + (at + 1 - start) ≡ at + 1 = omega arith in
    let b : start + (at - start) ≡ at = omega arith in
    let k : start ≤ length (take at values) = omega (arith, length-take-le at values (omega arith)) in
    sym (drop-take start (at + 1 - start) (set values at v))
    ∙ ap (λ n. drop start (take n (set values at v))) a
    ∙ ap (drop start) (take-set_at values at (at + 1) v refl h)
    ∙ drops start (take at values) v k
    ∙ ap (λ n. drop start (take n values) ++ v ∷ []) (sym b)
    ∙ ap (λ xs. xs ++ v ∷ []) (drop-take start (at - start) values)
  where
    drops : (n : ℕ) (xs : List ℤ) (y : ℤ) → n ≤ length xs → drop n (xs ++ y ∷ []) ≡ drop n xs ++ y ∷ []
    drops zero xs y h = refl
    drops (suc n) [] y h = absurd (omega arith)
    drops (suc n) (x ∷ xs) y h = drops n xs y (omega arith)

pub put_after : (values : List ℤ) (at most : ℕ) (v : ℤ) → at < most → drop most (set values at v) ≡ drop most values
put_after [] at most v h = ends at most v
  where
    ends : (at most : ℕ) (v : ℤ) → drop most (set [] at v) ≡ drop most []
    ends zero most v = refl
    ends (suc at) most v = refl
put_after (x ∷ xs) zero zero v h = absurd (omega arith)
put_after (x ∷ xs) zero (suc most) v h = refl
put_after (x ∷ xs) (suc at) zero v h = absurd (omega arith)
put_after (x ∷ xs) (suc at) (suc most) v h = put_after xs at most v (omega arith)

pub zero_is : (v : ℤ) → v ≡ pos 0 → is_zero v ≡ true
zero_is v e = ap is_zero e

-- if something is left, the place is before the last one
pub rest_short : (values : List ℤ) (at most : ℕ) → 1 ≤ length (take (most - at) (drop at values)) → at < most
rest_short values at most h = ⊎_elim (λ (k : at < most). k) (λ (k : most ≤ at). absurd (none k)) (cases_lt at most)
  where
    none : most ≤ at → ⊥
    none k = (let e : most - at ≡ 0 = omega arith in omega (arith, ap (λ n. length (take n (drop at values))) e))

-- a block whose band is done
pub whole_values : (values : List ℤ) (start at most : ℕ) → start ≤ at → at ≤ most → most ≤ length values → length (take (most - at) (drop at values)) ≡ 0
    → values ≡ take start values ++ (take (at - start) (drop start values) ++ drop most values)
whole_values values start at most h k l z =
    let e : most ≡ at = ⊎_elim (λ (q : at < most). absurd (some q)) (λ (q : most ≤ at). omega (arith, q, k)) (cases_lt at most) in
    let a : start + (at - start) ≡ at = omega arith in
    sym (take-append-drop start values)
    ∙ ap (λ xs. take start values ++ xs) (sym (take-append-drop (at - start) (drop start values))
    ∙ ap (λ xs. take (at - start) (drop start values) ++ xs) (drop-drop (at - start) start values ∙ ap (λ n. drop n values) (a ∙ sym e)))
  where
    some : at < most → ⊥
    some q = (let r = rest_more values at most l q in omega (arith, ap length r, z))

-- zeros that are skipped
pub passed_rest : (values : List ℤ) (at most n : ℕ) → at + n ≤ most → take (most - (at + n)) (drop (at + n) values) ≡ drop n (take (most - at) (drop at values))
passed_rest values at most n h =
    let e : most - at ≡ n + (most - (at + n)) = omega (arith, h) in
    ap (take (most - (at + n))) (sym (drop-drop n at values)) ∙ sym (drop-take n (most - (at + n)) (drop at values)) ∙ ap (λ m. drop n (take m (drop at values))) (sym e)

take_sum : (a b : ℕ) (xs : List ℤ) → take (a + b) xs ≡ take a xs ++ take b (drop a xs)
take_sum a b xs =
    sym (take-append-drop a (take (a + b) xs)) ∙ ap (λ (l : List ℤ). l ++ drop a (take (a + b) xs)) (take-take a (a + b) xs (omega arith)) ∙ ap (λ (l : List ℤ). take a xs ++ l) (drop-take a b xs)

pub passed_done : (values : List ℤ) (start at n : ℕ) (zeros : List ℤ) → start ≤ at → take n (drop at values) ≡ zeros → take (at + n - start) (drop start values) ≡ take (at - start) (drop start values) ++ zeros
passed_done values start at n zeros h e =
    let s : at + n - start ≡ (at - start) + n = omega (arith, h) in
    let d : start + (at - start) ≡ at = omega (arith, h) in
    ap (λ m. take m (drop start values)) s ∙ take_sum (at - start) n (drop start values)
    ∙ ap (λ (l : List ℤ). take (at - start) (drop start values) ++ l) (ap (take n) (drop-drop (at - start) start values ∙ ap (λ m. drop m values) d) ∙ e)

pub rest_long : (values : List ℤ) (at most n : ℕ) → n ≤ length (take (most - at) (drop at values)) → n ≤ most - at
rest_long values at most n h = omega (arith, h, length-take-most (most - at) (drop at values))
  where
    length-take-most : (m : ℕ) (xs : List ℤ) → length (take m xs) ≤ m
    length-take-most zero xs = omega arith
    length-take-most (suc m) [] = omega arith
    length-take-most (suc m) (x ∷ xs) = omega (arith, length-take-most m xs)

-- an empty list
pub empty_is : {X : Type 0} (xs : List X) → is_empty xs ≡ true → xs ≡ []
empty_is [] e = refl
empty_is (x ∷ xs) e = cc

pub empty_by_length : {X : Type 0} (xs : List X) (n : ℕ) → length xs ≡ n → (n == 0) ≡ is_empty xs
empty_by_length [] n e = ap (λ (m : ℕ). m == 0) (sym e)
empty_by_length (x ∷ xs) n e = not_same n 0 (λ z. omega (arith, e, z))
