-- Lists filled place by place.
use Rattle.std.proofs.Common.{◌≡◌, ℕ, suc, ◌+◌, ◌<◌, List, [], ◌∷◌, ◌++◌, length, get_or, map, take, sym, ap, ◌∙◌, arith}
use Rattle.std.specs.Prelude.{set, slice_index}
use Rattle.std.proofs.lemmas.List.{take_more, take_more_set, take_all, map_push, map_more}
use Rattle.jpg_spec.specs.Lists.{below}

-- the next place is written
pub filled_more : {A : Type 0} (xs ys : List A) (i : ℕ) (d : A) → i < length xs → i < length ys → take i xs ≡ take i ys → take (i + 1) (set xs i (get_or ys i d)) ≡ take (i + 1) ys
filled_more xs ys i d l m h = take_more_set xs i (get_or ys i d) l ∙ ap (λ front. front ++ get_or ys i d ∷ []) h ∙ sym (take_more ys i d m)

-- all places are written
pub filled_all : {A : Type 0} (xs ys : List A) (i n : ℕ) → i ≡ n → length xs ≡ n → length ys ≡ n → take i xs ≡ take i ys → xs ≡ ys
filled_all xs ys i n e l m h = sym (take_all i xs (omega (arith, e, l))) ∙ h ∙ take_all i ys (omega (arith, e, m))

pub below_filled : {A : Type 0} (f : ℕ → A) (xs : List A) (i : ℕ) → i < length xs → take i xs ≡ map f (below i) → take (i + 1) (set xs i (f i)) ≡ map f (below (i + 1))
below_filled f xs i l h =
    let e : suc i ≡ i + 1 = omega arith in
    take_more_set xs i (f i) l ∙ ap (λ front. front ++ f i ∷ []) h ∙ sym (map_push f (below i) i) ∙ ap (λ n. map f (below n)) e

pub map_filled : {A B : Type 0} (f : A → B) (xs : List B) (ys : List A) (i : ℕ) (d : A) → i < length xs → i < length ys → take i xs ≡ map f (take i ys) → take (i + 1) (set xs i (f (get_or ys i d))) ≡ map f (take (i + 1) ys)
map_filled f xs ys i d l m h = take_more_set xs i (f (get_or ys i d)) l ∙ ap (λ front. front ++ f (get_or ys i d) ∷ []) h ∙ sym (map_more f ys i d m)

-- all but the last one
pub last_filled : (xs ys : List ℕ) (i : ℕ) → i ≡ 256 → length xs ≡ 257 → length ys ≡ 256 → take i xs ≡ take i ys → xs ≡ ys ++ slice_index xs 256 ∷ []
last_filled xs ys i e l m h =
    sym (take_all 257 xs (omega (arith, l))) ∙ take_more xs 256 0 (omega (arith, l))
    ∙ ap (λ front. front ++ slice_index xs 256 ∷ []) (ap (λ n. take n xs) (sym e) ∙ h ∙ take_all i ys (omega (arith, e, m)))
