-- The first number below a bound that passes a test, and lists that grow by one number.
use Rattle.std.proofs.Common.{◌≡◌, ℕ, zero, suc, ◌<◌, ◌≤◌, Bool, true, false, cond, List, [], ◌∷◌, ◌++◌, refl, sym, ap, ◌∙◌, arith, ⊎_elim, Some, None}
use Rattle.std.specs.Prelude.{find}
use Rattle.std.proofs.lemmas.Bool.{cases_lt}
use Rattle.jpg_spec.specs.Lists.{below}

find_before : (p : ℕ → Bool) (xs ys : List ℕ) (x : ℕ) → find p xs ≡ Some x → find p (xs ++ ys) ≡ Some x
find_before p [] ys x e = cc
find_before p (y ∷ xs) ys x e = by (p y) (find_before p xs ys x) e
  where
    by : (b : Bool) → (find p xs ≡ Some x → find p (xs ++ ys) ≡ Some x) → cond b (Some y) (find p xs) ≡ Some x → cond b (Some y) (find p (xs ++ ys)) ≡ Some x
    by true rest e = e
    by false rest e = rest e

find_after : (p : ℕ → Bool) (xs : List ℕ) (y : ℕ) → find p xs ≡ None → find p (xs ++ y ∷ []) ≡ cond (p y) (Some y) None
find_after p [] y e = refl
find_after p (x ∷ xs) y e = by (p x) (find_after p xs y) e
  where
    by : (b : Bool) → (find p xs ≡ None → find p (xs ++ y ∷ []) ≡ cond (p y) (Some y) None) → cond b (Some x) (find p xs) ≡ None → cond b (Some x) (find p (xs ++ y ∷ [])) ≡ cond (p y) (Some y) None
    by true rest e = cc
    by false rest e = rest e

pub none_below : (p : ℕ → Bool) (n : ℕ) → ((k : ℕ) → k < n → p k ≡ false) → find p (below n) ≡ None
none_below p zero none = refl
none_below p (suc n) none =
    find_after p (below n) n (none_below p n (λ k h. none k (omega (arith, h)))) ∙ ap (λ b. cond b (Some n) None) (none n (omega arith))

pub first_below : (p : ℕ → Bool) (n i : ℕ) → ((k : ℕ) → k < i → p k ≡ false) → p i ≡ true → i < n → find p (below n) ≡ Some i
first_below p zero i none e h = absurd (omega (arith, h))
first_below p (suc n) i none e h =
    ⊎_elim (λ (lt : i < n). find_before p (below n) (n ∷ []) i (first_below p n i none e lt))
    (λ (ge : n ≤ i).
    (let is : i ≡ n = omega (arith, h, ge) in
    find_after p (below n) n (none_below p n (λ k lt. none k (omega (arith, lt, ge)))) ∙ ap (λ b. cond b (Some n) None) (ap p (sym is) ∙ e) ∙ ap (λ k. Some k) (sym is))) (cases_lt i n)
