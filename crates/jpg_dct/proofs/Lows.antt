-- Samples that are determined by rows of low bits.
use Rattle.std.proofs.Common.{◌≡◌, ℕ, ◌+◌, ◌*◌, ◌<◌, List, [], ◌∷◌, ◌++◌, length, take, set, get_or, map, flat_map, refl, sym, ap, ◌∙◌, arith}
use Rattle.std.proofs.lemmas.List.{take_more_set, take_more, map-append, append_assoc, append-nil}
use Rattle.std.proofs.lemmas.Grind.{flat_map-append}
use Rattle.jpg_dct.specs.LowBits.{natural_of}

pub one_more : (start samples row : List ℕ) (at k r : ℕ) → at + k < length samples → k < length row → take (at + k) samples ≡ start ++ map natural_of (take k row) → r ≡ natural_of (get_or row k 0)
    → take (at + (k + 1)) (set samples (at + k) r) ≡ start ++ map natural_of (take (k + 1) row)
one_more start samples row at k r lt in_row e is =
    let n : at + (k + 1) ≡ at + k + 1 = omega arith in
    ap (λ m. take m (set samples (at + k) r)) n
    ∙ take_more_set samples (at + k) r lt
    ∙ ap (λ ys. ys ++ r ∷ []) e
    ∙ append_assoc start (map natural_of (take k row)) (r ∷ [])
    ∙ ap (λ y. start ++ (map natural_of (take k row) ++ y ∷ [])) is
    ∙ ap (λ ys. start ++ ys) (sym (map-append natural_of (take k row) (get_or row k 0 ∷ [])))
    ∙ ap (λ ys. start ++ map natural_of ys) (sym (take_more row k 0 in_row))

pub row_more : (lows : List (List ℕ)) (old new : List ℕ) (v : ℕ) → v < length lows → take (8 * v) old ≡ flat_map (map natural_of) (take v lows)
    → take (8 * v + 8) new ≡ take (8 * v) old ++ map natural_of (get_or lows v []) → take (8 * (v + 1)) new ≡ flat_map (map natural_of) (take (v + 1) lows)
row_more lows old new v lt e is =
    let n : 8 * (v + 1) ≡ 8 * v + 8 = omega arith in
    ap (λ m. take m new) n ∙ is
    ∙ ap (λ ys. ys ++ map natural_of (get_or lows v [])) e
    ∙ ap (λ ys. flat_map (map natural_of) (take v lows) ++ ys) (sym (append-nil (map natural_of (get_or lows v []))))
    ∙ sym (flat_map-append (map natural_of) (take v lows) (get_or lows v [] ∷ []))
    ∙ ap (flat_map (map natural_of)) (sym (take_more lows v [] lt))

pub joined_is : {X : Type 0} (f : X → List ℕ) (xs : List X) → flat_map f xs ≡ flat_map (λ y. y) (map f xs)
joined_is f [] = refl
joined_is f (x ∷ xs) = ap (λ ys. f x ++ ys) (joined_is f xs)
