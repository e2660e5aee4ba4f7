-- The values of a transformed block are in the bounds if the block's are.
use Rattle.std.proofs.Common.{◌≡◌, ℕ, zero, suc, ◌<◌, Bool, true, false, ◌&&◌, List, [], ◌∷◌, length, get_or, map, drop, refl, sym, ap, ◌∙◌, subst, arith, ℤ, pos, nat_lt}
use Rattle.std.specs.Prelude.{int_le, nat_abs}
use Rattle.std.proofs.lemmas.Bool.{ltb-true}
use Rattle.std.proofs.lemmas.List.{get_or-map}
use Rattle.std.proofs.lemmas.List.Elements.{All-get_or}
use Rattle.std.proofs.lemmas.List.Sums.{AllPass-from_list_all}
use Rattle.jpg_spec.specs.Elements.{are_in_bounds, IsBlockIn}
use Rattle.jpg_spec.specs.Zigzag.{zigzag}
use Rattle.jpg_spec_move.specs.Moves.{mirrored, mirrored_down}
use Rattle.jpg_spec.specs.Transposed.{exchanged, transposed}
use Rattle.jpg_spec_move.specs.Transforms.{signed, turned_over}
use Rattle.jpg_spec.specs.declared.frame.Bounds.{Bounds}
use Rattle.jpg_spec.proofs.Writing.MirroredBlocks.{IsBlock}
use Rattle.jpg_spec_move.proofs.Within.{mirrored_in}
use Rattle.jpg_spec_move.proofs.BlockLaws.{length_transposed, down_is}

-- AC values, one by one

abbrev IsSmall : Bounds → ℤ → Type 0
IsSmall r v = int_le (pos (nat_abs v)) r.ac ≡ true

both : (a b : Bool) → a && b ≡ true → (a ≡ true) × (b ≡ true)
both true true e = (refl, refl)
both true false e = absurd (cc)
both false b e = absurd (cc)

each_small : (r : Bounds) (xs : List ℤ) (k : ℕ) → are_in_bounds r false xs ≡ true → k < length xs → IsSmall r (get_or xs k (pos 0))
each_small r [] k e lt = absurd (omega (arith, lt))
each_small r (v ∷ xs) zero e lt = (both (int_le (pos (nat_abs v)) r.ac) (are_in_bounds r false xs) e).0
each_small r (v ∷ xs) (suc k) e lt = each_small r xs k (both (int_le (pos (nat_abs v)) r.ac) (are_in_bounds r false xs) e).1 (omega (arith, lt))

all_small : (r : Bounds) (xs : List ℤ) → ((k : ℕ) → k < length xs → IsSmall r (get_or xs k (pos 0))) → are_in_bounds r false xs ≡ true
all_small r [] h = refl
all_small r (v ∷ xs) h =
    let first : IsSmall r v = h zero (omega arith) in
    let rest = all_small r xs (λ k lt. h (suc k) (omega (arith, lt))) in
    ap (λ b. b && are_in_bounds r false xs) first ∙ rest

-- TRANSPOSED: the DC remains, and an AC comes from an AC

abbrev places : List ℕ
places = map exchanged zigzag

pub transposed_at : (xs : List ℤ) (k : ℕ) → k < 64 → get_or (transposed (pos 0) xs) k (pos 0) ≡ get_or xs (get_or places k 0) (pos 0)
unfolding transposed
transposed_at xs k lt =
    get_or-map (λ n. get_or xs (exchanged n) (pos 0)) zigzag k 0 (pos 0) lt ∙ sym (ap (λ (n : ℕ). get_or xs n (pos 0)) (get_or-map exchanged zigzag k 0 0 lt))

place_inside : (k : ℕ) → k < 63 → (0 < get_or places (suc k) 0) × (get_or places (suc k) 0 < 64)
place_inside k lt = (
  ltb-true 0 (get_or places (suc k) 0) (All-get_or (λ x. nat_lt 0 x ≡ true) (drop 1 places) k 0 lt (AllPass-from_list_all (λ x. nat_lt 0 x) (drop 1 places) refl)),
  ltb-true (get_or places (suc k) 0) 64 (All-get_or (λ x. nat_lt x 64 ≡ true) (drop 1 places) k 0 lt (AllPass-from_list_all (λ x. nat_lt x 64) (drop 1 places) refl)),
)

split : (xs : List ℤ) → IsBlock xs → (v : ℤ) × (rest : List ℤ) × (xs ≡ v ∷ rest) × (length rest ≡ 63)
split [] l = absurd (omega (arith, l))
split (v ∷ rest) l = (v, rest, refl, omega (arith, l))

ac_of : (v : ℤ) (rest : List ℤ) (n : ℕ) (r : Bounds) → are_in_bounds r false rest ≡ true → length rest ≡ 63 → 0 < n → n < 64 → IsSmall r (get_or (v ∷ rest) n (pos 0))
ac_of v rest zero r e l low high = absurd (omega (arith, low))
ac_of v rest (suc n) r e l low high = each_small r rest n e (omega (arith, l, high))

dc_same : (xs : List ℤ) → get_or (transposed (pos 0) xs) 0 (pos 0) ≡ get_or xs 0 (pos 0)
dc_same xs = transposed_at xs 0 (omega arith)

bounded : (r : Bounds) (v w : ℤ) (xs ys : List ℤ) → v ≡ w → are_in_bounds r true (v ∷ xs) ≡ true → (are_in_bounds r false xs ≡ true → are_in_bounds r false ys ≡ true) → are_in_bounds r true (w ∷ ys) ≡ true
bounded r v w xs ys e h step =
    let low = int_le r.dc_low v in
    let high = int_le v r.dc_high in
    let parts = both (low && high) (are_in_bounds r false xs) h in
    subst (λ u. int_le r.dc_low u && int_le u r.dc_high && are_in_bounds r false ys ≡ true) e
    (ap (λ b. b && are_in_bounds r false ys) parts.0 ∙ step parts.1)

pub transposed_in : (r : Bounds) (block : List ℤ) → IsBlockIn r block → IsBlockIn r (transposed (pos 0) block)
transposed_in r block h =
    let s = split block h.0 in
    let v = s.0 in
    let rest = s.1 in
    let t = split (transposed (pos 0) block) (length_transposed (pos 0) block) in
    let w = t.0 in
    let others = t.1 in
    let first : v ≡ w = ap (λ xs. get_or xs 0 (pos 0)) (sym s.2) ∙ sym (dc_same block) ∙ ap (λ xs. get_or xs 0 (pos 0)) t.2 in
    let all : are_in_bounds r false rest ≡ true → are_in_bounds r false others ≡ true = λ e.
    all_small r others
    (λ k lt. (let low : k < 63 = omega (arith, lt, t.3) in
    let p = place_inside k low in
    let here : get_or others k (pos 0) ≡ get_or (v ∷ rest) (get_or places (suc k) 0) (pos 0) =
    ap (λ xs. get_or xs (suc k) (pos 0)) (sym t.2) ∙ transposed_at block (suc k) (omega (arith, low)) ∙ ap (λ xs. get_or xs (get_or places (suc k) 0) (pos 0)) s.2 in
    subst (λ u. IsSmall r u) (sym here) (ac_of v rest (get_or places (suc k) 0) r e s.3 p.0 p.1))) in
    let whole : are_in_bounds r true (v ∷ rest) ≡ true = subst (λ xs. are_in_bounds r true xs ≡ true) s.2 h.1 in
    (length_transposed (pos 0) block, subst (λ xs. are_in_bounds r true xs ≡ true) (sym t.2) (bounded r v w rest others first whole all))

pub mirrored_down_in : (r : Bounds) (block : List ℤ) → IsBlockIn r block → IsBlockIn r (mirrored_down block)
mirrored_down_in r block h =
    subst (λ (b : List ℤ). IsBlockIn r b) (sym (down_is block h.0))
    (transposed_in r (mirrored (transposed (pos 0) block)) (mirrored_in r (transposed (pos 0) block) (transposed_in r block h)))

pub moved_in : (r : Bounds) (a b over : Bool) (block : List ℤ) → IsBlockIn r block → IsBlockIn r (signed a b (turned_over over block))
moved_in r a b over block h = across a b (turned_over over block) (turned over)
  where
    turned : (o : Bool) → IsBlockIn r (turned_over o block)
    turned true = transposed_in r block h
    turned false = h

    across : (a b : Bool) (xs : List ℤ) → IsBlockIn r xs → IsBlockIn r (signed a b xs)
    across true true xs w = mirrored_in r (mirrored_down xs) (mirrored_down_in r xs w)
    across true false xs w = mirrored_in r xs w
    across false true xs w = mirrored_down_in r xs w
    across false false xs w = w
