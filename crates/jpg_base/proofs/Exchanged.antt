-- A table with its axes exchanged, place by place.
use Rattle.std.proofs.Common.{◌≡◌, ℕ, ◌+◌, ◌<◌, List, [], ◌∷◌, ◌++◌, length, take, drop, set, get_or, map, refl, sym, ap, ◌∙◌, arith, nat_lt, true}
use Rattle.std.proofs.lemmas.Bool.{ltb-true}
use Rattle.std.proofs.lemmas.List.{get_or-map, set_at, take_more, drop_more, length-take-le, append_assoc, length-map, take_all, drop_all, append-nil}
use Rattle.std.proofs.lemmas.List.Elements.{All-get_or}
use Rattle.std.proofs.lemmas.List.Sums.{AllPass-from_list_all}
use Rattle.jpg_spec.specs.Zigzag.{zigzag}
use Rattle.jpg_spec.specs.Transposed.{exchanged, transposed}

abbrev pub places : List ℕ
places = map exchanged zigzag

pub place_low : (k : ℕ) → k < 64 → get_or places k 0 < 64
place_low k lt = ltb-true (get_or places k 0) 64 (All-get_or (λ x. nat_lt x 64 ≡ true) places k 0 lt (AllPass-from_list_all (λ x. nat_lt x 64) places refl))

pub length-transposed : (xs : List ℕ) → length (transposed 0 xs) ≡ 64
unfolding transposed
length-transposed xs = length-map zigzag (λ n. get_or xs (exchanged n) 0)

pub transposed_at : (xs : List ℕ) (k : ℕ) → k < 64 → get_or (transposed 0 xs) k 0 ≡ get_or xs (get_or places k 0) 0
unfolding transposed
transposed_at xs k lt =
    get_or-map (λ n. get_or xs (exchanged n) 0) zigzag k 0 0 lt
    ∙ sym (ap (λ (n : ℕ). get_or xs n 0) (get_or-map exchanged zigzag k 0 0 lt))

-- one more place is done
pub exchange_step : (xs rest values : List ℕ) (k v : ℕ) → length rest ≡ 64 → k < 64 → values ≡ take k (transposed 0 xs) ++ drop k rest → v ≡ get_or xs (get_or places k 0) 0
    → set values k v ≡ take (k + 1) (transposed 0 xs) ++ drop (k + 1) rest
exchange_step xs rest values k v h lt e is =
    let done = transposed 0 xs in
    let long : length done ≡ 64 = length-transposed xs in
    let d : drop k rest ≡ get_or rest k 0 ∷ drop (k + 1) rest = drop_more rest k 0 (omega arith) in
    let len : length (take k done) ≡ k = length-take-le k done (omega arith) in
    let t : take (k + 1) done ≡ take k done ++ get_or done k 0 ∷ [] = take_more done k 0 (omega arith) in
    ap (λ ys. set ys k v) (e ∙ ap (λ r. take k done ++ r) d)
    ∙ set_at (take k done) (get_or rest k 0) (drop (k + 1) rest) v k len
    ∙ ap (λ (w : ℕ). take k done ++ w ∷ drop (k + 1) rest) (is ∙ sym (transposed_at xs k lt))
    ∙ sym (append_assoc (take k done) (get_or done k 0 ∷ []) (drop (k + 1) rest))
    ∙ ap (λ r. r ++ drop (k + 1) rest) (sym t)

-- all places are done
pub exchange_all : (xs rest values : List ℕ) (k : ℕ) → length rest ≡ 64 → k ≡ 64 → values ≡ take k (transposed 0 xs) ++ drop k rest → values ≡ transposed 0 xs
exchange_all xs rest values k h e is =
    let long : length (transposed 0 xs) ≡ 64 = length-transposed xs in
    is ∙ ap (λ r. take k (transposed 0 xs) ++ r) (drop_all k rest (omega arith)) ∙ append-nil (take k (transposed 0 xs)) ∙ take_all k (transposed 0 xs) (omega arith)
