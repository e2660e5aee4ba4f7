-- The numbers of a block, one after another.
use Rattle.std.proofs.Common.{◌≡◌, ℕ, ◌+◌, ◌<◌, ◌≤◌, ⊎_elim, List, [], ◌∷◌, ◌++◌, length, take, set, ℤ, pos, sym, ap, ◌∙◌, arith}
use Rattle.std.proofs.lemmas.Bool.{cases_lt}
use Rattle.std.proofs.lemmas.List.{take_more_set, take_more, take_all, get_or-take, get_or-set_other, ext_get_or}
use Rattle.jpg_spec_image.specs.Dct.{number_at}

-- one more of them
pub number_step : (block values : List ℤ) (k : ℕ) (v : ℤ) → length values ≡ 64 → length block ≡ 64 → k < 64 → take k values ≡ take k block
    → v ≡ number_at block k → take (k + 1) (set values k v) ≡ take (k + 1) block
number_step block values k v long as_long lt e is =
    take_more_set values k v (omega (arith, long, lt))
    ∙ ap (λ ys. ys ++ v ∷ []) e
    ∙ ap (λ y. take k block ++ y ∷ []) is
    ∙ sym (take_more block k (pos 0) (omega (arith, as_long, lt)))

pub numbers_done : (block values : List ℤ) (k : ℕ) → length values ≡ 64 → length block ≡ 64 → k ≡ 64 → take k values ≡ take k block → values ≡ block
numbers_done block values k long as_long is e = sym (take_all k values (omega (arith, long, is))) ∙ e ∙ take_all k block (omega (arith, as_long, is))

-- THE FIRST TEN, where the others are 0

pub zeros_step : (values : List ℤ) (k : ℕ) (v : ℤ) → ((n : ℕ) → k ≤ n → n < 64 → number_at values n ≡ pos 0) → (n : ℕ) → k + 1 ≤ n → n < 64 → number_at (set values k v) n ≡ pos 0
zeros_step values k v zeros n after lt = get_or-set_other values k n v (pos 0) (λ e. omega (arith, e, after)) ∙ zeros n (omega (arith, after)) lt

pub ten_done : (block values : List ℤ) (k : ℕ) → length values ≡ 64 → length block ≡ 64 → 10 ≤ k → take k values ≡ take k block
    → ((n : ℕ) → k ≤ n → n < 64 → number_at values n ≡ pos 0) → ((n : ℕ) → 10 ≤ n → n < 64 → number_at block n ≡ pos 0) → values ≡ block
ten_done block values k long as_long ten e zeros few =
    ext_get_or (pos 0) values block (long ∙ sym as_long)
    (λ n h. ⊎_elim
    (λ (a : n < k). sym (get_or-take k values n (pos 0) a) ∙ ap (λ (xs : List ℤ). number_at xs n) e ∙ get_or-take k block n (pos 0) a)
    (λ (b : k ≤ n). zeros n b (omega (arith, h, long)) ∙ sym (few n (omega (arith, b, ten)) (omega (arith, h, long))))
    (cases_lt n k))
