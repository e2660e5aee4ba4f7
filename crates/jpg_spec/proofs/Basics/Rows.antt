-- Lists item by item: prefixes of one length, maps, the numbers below one, and what holds of each item.
use Rattle.std.proofs.Common.{◌≡◌, ℕ, zero, suc, ◌+◌, ◌-◌, ◌<◌, ◌≤◌, List, [], ◌∷◌, ◌++◌, length, get_or, refl, sym, ap, ◌∙◌, subst, arith, ⊎_elim}
use Rattle.std.proofs.lemmas.Bool.{cases_lt}
use Rattle.std.specs.Prelude.{map, reverse}
use Rattle.std.specs.List.{All}
use Rattle.std.proofs.lemmas.List.{length-append, length-map, length-reverse, get_or-map, get_or-reverse, get_or-append-add, get_or_append_left, ext_get_or, get_or-append_right}
use Rattle.std.proofs.lemmas.List.Elements.{All-head, All-tail, All-get_or, All-from_get_or}
use Rattle.jpg_spec.specs.Lists.{below}
use Rattle.jpg_spec.proofs.Basics.Common.{length_below}

-- prefixes of one length are equal, and so is the rest
pub append_apart : {A : Type 0} (xs ys a b : List A) → length xs ≡ length ys → xs ++ a ≡ ys ++ b → (xs ≡ ys) × (a ≡ b)
append_apart [] [] a b l e = (refl, e)
append_apart [] (y ∷ ys) a b l e = absurd (omega arith)
append_apart (x ∷ xs) [] a b l e = absurd (omega arith)
append_apart (x ∷ xs) (y ∷ ys) a b l e =
    let t : xs ++ a ≡ ys ++ b = cc in
    let l' : length xs ≡ length ys = omega arith in
    let h = append_apart xs ys a b l' t in
    let e1 = h.0 in
    let e2 = h.1 in
    (cc, e2)

-- MAPS

pub map_map : {A B C : Type 0} (f : B → C) (g : A → B) (xs : List A) → map f (map g xs) ≡ map (λ x. f (g x)) xs
map_map f g [] = refl
map_map f g (x ∷ xs) = ap (λ t. f (g x) ∷ t) (map_map f g xs)

pub map_alike : {A B : Type 0} (P : A → Type 0) (f g : A → B) (xs : List A) → ((x : A) → P x → f x ≡ g x) → All P xs → map f xs ≡ map g xs
map_alike P f g [] same all = refl
map_alike P f g (x ∷ xs) same all = ap (λ t. t ∷ map f xs) (same x (All-head P x xs all)) ∙ ap (λ t. g x ∷ t) (map_alike P f g xs same (All-tail P x xs all))

-- THE NUMBERS BELOW ONE

pub at_below : (n i : ℕ) → i < n → get_or (below n) i 0 ≡ i
at_below zero i h = absurd (omega arith)
at_below (suc n) i h =
    let l = length_below n in
    ⊎_elim
    (λ (a : i < n). get_or_append_left (below n) (n ∷ []) 0 i (omega (arith, l)) ∙ at_below n i a)
    (λ (b : n ≤ i). (let e : i ≡ n = omega arith in
    let z : n - n ≡ 0 = omega arith in
    get_or-append_right (below n) (n ∷ []) n i 0 l b ∙ ap (λ k. get_or (n ∷ []) (k - n) 0) e ∙ ap (λ k. get_or (n ∷ []) k 0) z ∙ sym e))
    (cases_lt i n)

-- a list by its items
pub by_items : {A : Type 0} (n : ℕ) (f : ℕ → A) (xs : List A) (d : A) → length xs ≡ n → ((i : ℕ) → i < n → f i ≡ get_or xs i d) → map f (below n) ≡ xs
by_items n f xs d l same =
    let m : length (map f (below n)) ≡ n = length-map (below n) f ∙ length_below n in
    ext_get_or d (map f (below n)) xs (m ∙ sym l)
    (λ i h. (let s : i < n = omega (arith, m, h) in get_or-map f (below n) i 0 d (omega (arith, length_below n, s)) ∙ ap f (at_below n i s) ∙ same i s))

-- WHAT HOLDS OF EACH ITEM

pub all_front : {A : Type 0} (P : A → Type 0) (xs ys : List A) → All P (xs ++ ys) → All P xs
all_front P xs ys all = λ k d h. subst P (get_or_append_left xs ys d k h) (all k d (omega (arith, h, length-append xs ys)))

pub all_back : {A : Type 0} (P : A → Type 0) (xs ys : List A) → All P (xs ++ ys) → All P ys
all_back P xs ys all = λ k d h. subst P (get_or-append-add xs ys k d) (all (length xs + k) d (omega (arith, h, length-append xs ys)))

pub all_reverse : {A : Type 0} (P : A → Type 0) (xs : List A) (d : A) → All P xs → All P (reverse xs)
all_reverse P xs d all =
    All-from_get_or P (reverse xs) d
    (λ i h. (let k : i < length xs = omega (arith, h, length-reverse xs) in subst P (sym (get_or-reverse xs i d k)) (All-get_or P xs (length xs - 1 - i) d (omega arith) all)))
