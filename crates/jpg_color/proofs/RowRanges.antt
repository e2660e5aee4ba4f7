-- Rows of an image from one place up to another.
use Rattle.std.proofs.Common.{◌≡◌, ℕ, zero, suc, ◌+◌, ◌-◌, ◌≤◌, List, [], ◌∷◌, ◌++◌, length, map, take, drop, refl, sym, ap, ◌∙◌, arith}
use Rattle.std.proofs.lemmas.List.{append-nil, append_assoc, length-map, map-append, take-append-le, drop-append-le}
use Rattle.jpg_spec.specs.Lists.{below}
use Rattle.jpg_spec_image.specs.Strips.{rows_from}
use Rattle.jpg_spec.proofs.Basics.Common.{length_below}

pub take_whole : {A : Type 0} (xs : List A) (n : ℕ) → length xs ≡ n → take n xs ≡ xs
take_whole [] zero e = refl
take_whole [] (suc n) e = refl
take_whole (x ∷ xs) zero e = absurd (omega (arith, e))
take_whole (x ∷ xs) (suc n) e = ap (λ ys. x ∷ ys) (take_whole xs n (omega (arith, e)))

drop_whole : {A : Type 0} (xs : List A) (n : ℕ) → length xs ≡ n → drop n xs ≡ []
drop_whole [] zero e = refl
drop_whole [] (suc n) e = refl
drop_whole (x ∷ xs) zero e = absurd (omega (arith, e))
drop_whole (x ∷ xs) (suc n) e = drop_whole xs n (omega (arith, e))

pub take_and_drop : {A : Type 0} (xs : List A) (n : ℕ) → take n xs ++ drop n xs ≡ xs
take_and_drop [] zero = refl
take_and_drop [] (suc n) = refl
take_and_drop (x ∷ xs) zero = refl
take_and_drop (x ∷ xs) (suc n) = ap (λ ys. x ∷ ys) (take_and_drop xs n)

pub no_row : (rows : List (List ℕ)) (n : ℕ) → n ≡ 0 → take n rows ≡ []
no_row [] zero e = refl
no_row (r ∷ rows) zero e = refl
no_row rows (suc n) e = absurd (omega (arith, e))

pub all_below : (f : ℕ → List ℕ) (n : ℕ) → length (map f (below n)) ≡ n
all_below f n = length-map (below n) f ∙ length_below n

pub below_split : (f : ℕ → List ℕ) (a c : ℕ) → map f (below (a + c)) ≡ map f (below a) ++ rows_from f a c
below_split f a zero = ap (λ n. map f (below n)) (let e : a + 0 ≡ a = omega arith in e) ∙ sym (append-nil (map f (below a)))
below_split f a (suc c) =
    ap (λ n. map f (below n)) (let e : a + suc c ≡ suc (a + c) = omega arith in e)
    ∙ map-append f (below (a + c)) ((a + c) ∷ [])
    ∙ ap (λ xs. xs ++ f (a + c) ∷ []) (below_split f a c)
    ∙ append_assoc (map f (below a)) (rows_from f a c) (f (a + c) ∷ [])
    ∙ ap (λ xs. map f (below a) ++ xs) (sym (map-append (λ k. f (a + k)) (below c) (c ∷ [])))

-- the first rows of those below n, and the remaining ones
pub take_rows : (f : ℕ → List ℕ) (a n : ℕ) → a ≤ n → take a (map f (below n)) ≡ map f (below a)
take_rows f a n le =
    let long = all_below f a in
    ap (λ m. take a (map f (below m))) (let e : n ≡ a + (n - a) = omega (arith, le) in e)
    ∙ ap (take a) (below_split f a (n - a))
    ∙ take-append-le a (map f (below a)) (rows_from f a (n - a)) (omega (arith, long))
    ∙ take_whole (map f (below a)) a long

pub drop_rows : (f : ℕ → List ℕ) (a n : ℕ) → a ≤ n → drop a (map f (below n)) ≡ rows_from f a (n - a)
drop_rows f a n le =
    let long = all_below f a in
    ap (λ m. drop a (map f (below m))) (let e : n ≡ a + (n - a) = omega (arith, le) in e)
    ∙ ap (drop a) (below_split f a (n - a))
    ∙ drop-append-le a (map f (below a)) (rows_from f a (n - a)) (omega (arith, long))
    ∙ ap (λ xs. xs ++ rows_from f a (n - a)) (drop_whole (map f (below a)) a long)

pub rows_cut : (f : ℕ → List ℕ) (a b n : ℕ) → a ≤ b → b ≤ n → drop a (take b (map f (below n))) ≡ rows_from f a (b - a)
rows_cut f a b n le most = ap (drop a) (take_rows f b n most) ∙ drop_rows f a b le

-- no row, one more row, and others after them
pub no_rows_from : (f : ℕ → List ℕ) (a : ℕ) → rows_from f a (a - a) ≡ []
no_rows_from f a = ap (rows_from f a) (let e : a - a ≡ 0 = omega arith in e)

pub more_rows_from : (f : ℕ → List ℕ) (a g : ℕ) → a ≤ g → rows_from f a (g + 1 - a) ≡ rows_from f a (g - a) ++ f g ∷ []
more_rows_from f a g le =
    ap (rows_from f a) (let e : g + 1 - a ≡ suc (g - a) = omega (arith, le) in e)
    ∙ map-append (λ k. f (a + k)) (below (g - a)) ((g - a) ∷ [])
    ∙ ap (λ n. rows_from f a (g - a) ++ f n ∷ []) (let e : a + (g - a) ≡ g = omega (arith, le) in e)

pub others_from : (f : ℕ → List ℕ) (a g end : ℕ) → a ≤ g → g ≤ end → (more : List (List ℕ)) × (rows_from f a (end - a) ≡ rows_from f a (g - a) ++ more)
others_from f a g end low high = (
  rows_from (λ k. f (a + k)) (g - a) (end - g),
  ap (rows_from f a) (let e : end - a ≡ (g - a) + (end - g) = omega (arith, low, high) in e) ∙ below_split (λ k. f (a + k)) (g - a) (end - g),
)
