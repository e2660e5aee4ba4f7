-- One block with its signs changed, place by place.
use Rattle.std.proofs.Common.{◌≡◌, ℕ, ◌+◌, ◌*◌, ◌/◌, ◌%◌, ◌<◌, Bool, true, false, cond, List, [], ◌∷◌, ◌++◌, length, take, drop, set, get_or, map, refl, sym, ap, ◌∙◌, subst, arith, not, ℤ, pos, neg_ℤ, ◌==◌}
use Rattle.std.specs.Prelude.{int_lt, negsuc}
use Rattle.std.specs.List.{zip, All}
use mir.Val.{bool_byte}
use Rattle.std.proofs.Math.IntN.{neg_ℤ-neg_ℤ}
use Rattle.std.proofs.lemmas.List.{get_or-map, set_at, take_more, drop_more, length-take-le, append_assoc, length-map, take_all, drop_all, append-nil}
use Rattle.std.proofs.lemmas.List.Elements.{All-get_or, All-from_get_or}
use Rattle.std.proofs.lemmas.Slice.Zip.{get_or-zip, length-zip}
use Rattle.jpg_spec.specs.Zigzag.{zigzag}
use Rattle.jpg_spec_move.specs.Moves.{mirrored, mirrored_down}
use Rattle.jpg_spec.specs.Transposed.{exchanged, transposed}
use Rattle.jpg_spec_move.specs.Transforms.{signed}
use Rattle.jpg_transform.specs.Changed.{is_changed, AreMasks}
use Rattle.jpg_spec.proofs.Writing.MirroredBlocks.{IsBlock}
use Rattle.jpg_spec_move.proofs.MirroredBlocks.{mirrored_block}
use Rattle.jpg_spec_move.proofs.BlockLaws.{mirrored_down_block, length_transposed}
use Rattle.jpg_spec_move.proofs.MovedBounds.{transposed_at}
use Rattle.jpg_base.proofs.Exchanged.{place_low}

-- ONE MORE PLACE of a block that is written in order

pub step : (want rest values : List ℤ) (k : ℕ) (v : ℤ) → IsBlock want → IsBlock rest → k < 64 → values ≡ take k want ++ drop k rest → v ≡ get_or want k (pos 0)
    → set values k v ≡ take (k + 1) want ++ drop (k + 1) rest
step want rest values k v lw lr lt e is =
    let d : drop k rest ≡ get_or rest k (pos 0) ∷ drop (k + 1) rest = drop_more rest k (pos 0) (omega arith) in
    let len : length (take k want) ≡ k = length-take-le k want (omega arith) in
    let t : take (k + 1) want ≡ take k want ++ get_or want k (pos 0) ∷ [] = take_more want k (pos 0) (omega arith) in
    ap (λ ys. set ys k v) (e ∙ ap (λ r. take k want ++ r) d) ∙ set_at (take k want) (get_or rest k (pos 0)) (drop (k + 1) rest) v k len
    ∙ ap (λ (w : ℤ). take k want ++ w ∷ drop (k + 1) rest) is ∙ sym (append_assoc (take k want) (get_or want k (pos 0) ∷ []) (drop (k + 1) rest))
    ∙ ap (λ r. r ++ drop (k + 1) rest) (sym t)

pub all : (want rest values : List ℤ) (k : ℕ) → IsBlock want → IsBlock rest → k ≡ 64 → values ≡ take k want ++ drop k rest → values ≡ want
all want rest values k lw lr e is =
    is ∙ ap (λ r. take k want ++ r) (drop_all k rest (omega arith)) ∙ append-nil (take k want) ∙ take_all k want (omega arith)

-- THE VALUE AT A PLACE

abbrev pub changed : Bool → ℤ → ℤ
changed odd v = cond odd (neg_ℤ v) v

abbrev odd_across : ℕ → Bool
odd_across n = n % 2 == 1

abbrev odd_down : ℕ → Bool
odd_down n = n / 8 % 2 == 1

at_zip : (odd : ℕ → Bool) (xs : List ℤ) (k : ℕ) → IsBlock xs → k < 64 → get_or (map (λ (p : ℕ × ℤ). changed (odd p.0) p.1) (zip zigzag xs)) k (pos 0) ≡ changed (odd (get_or zigzag k 0)) (get_or xs k (pos 0))
at_zip odd xs k h lt =
    let len : k < length (zip zigzag xs) = omega (arith, length-zip zigzag xs) in
    get_or-map (λ (p : ℕ × ℤ). changed (odd p.0) p.1) (zip zigzag xs) k (0, pos 0) (pos 0) len ∙ ap (λ (p : ℕ × ℤ). changed (odd p.0) p.1) (get_or-zip zigzag xs k (0, pos 0) lt (omega arith))

at_mirrored : (xs : List ℤ) (k : ℕ) → IsBlock xs → k < 64 → get_or (mirrored xs) k (pos 0) ≡ changed (odd_across (get_or zigzag k 0)) (get_or xs k (pos 0))
unfolding mirrored
at_mirrored xs k h lt = at_zip odd_across xs k h lt

at_mirrored_down : (xs : List ℤ) (k : ℕ) → IsBlock xs → k < 64 → get_or (mirrored_down xs) k (pos 0) ≡ changed (odd_down (get_or zigzag k 0)) (get_or xs k (pos 0))
unfolding mirrored_down
at_mirrored_down xs k h lt = at_zip odd_down xs k h lt

twice : (a b : Bool) (v : ℤ) → changed a (changed b v) ≡ changed (cond a (not b) b) v
twice true true v = neg_ℤ-neg_ℤ v
twice true false v = refl
twice false b v = refl

pub at_signed : (a b : Bool) (xs : List ℤ) (k : ℕ) → IsBlock xs → k < 64 → get_or (signed a b xs) k (pos 0) ≡ changed (is_changed a b (get_or zigzag k 0)) (get_or xs k (pos 0))
at_signed false false xs k h lt = refl
at_signed true false xs k h lt = at_mirrored xs k h lt
at_signed false true xs k h lt = at_mirrored_down xs k h lt
at_signed true true xs k h lt =
    let n = get_or zigzag k 0 in
    at_mirrored (mirrored_down xs) k (mirrored_down_block xs h) lt ∙ ap (changed (odd_across n)) (at_mirrored_down xs k h lt) ∙ twice (odd_across n) (odd_down n) (get_or xs k (pos 0))

pub signed_block : (a b : Bool) (xs : List ℤ) → IsBlock xs → IsBlock (signed a b xs)
signed_block false false xs h = h
signed_block true false xs h = mirrored_block xs h
signed_block false true xs h = mirrored_down_block xs h
signed_block true true xs h = mirrored_block (mirrored_down xs) (mirrored_down_block xs h)

-- THE MASKS

abbrev At : List (List ℤ) → ℕ → Bool → Bool → Type 0
At table i a b = AreMasks a b (get_or table i [])

pub pick : (table : List (List ℤ)) (a b : Bool) (m n : ℕ) → m ≡ bool_byte a → n ≡ bool_byte b → At table 0 false false → At table 1 true false → At table 2 false true → At table 3 true true → At table (m + 2 * n) a b
pick table a b m n e f none across down both = ap_both (by a b)
  where
    by : (a b : Bool) → At table (bool_byte a + 2 * bool_byte b) a b
    by false false = none
    by true false = across
    by false true = down
    by true true = both

    ap_both : At table (bool_byte a + 2 * bool_byte b) a b → At table (m + 2 * n) a b
    ap_both h = ap (λ i. map (λ k. int_lt k (pos 0)) (get_or table i [])) (ap (λ i. i + 2 * n) e ∙ ap (λ i. bool_byte a + 2 * i) f) ∙ h

pub masks_long : (a b : Bool) (masks : List ℤ) → AreMasks a b masks → length masks ≡ 64
masks_long a b masks are = sym (length-map masks (λ m. int_lt m (pos 0))) ∙ ap length are ∙ length-map zigzag (is_changed a b)

-- the value that is put at a place
pub value_at : (a b : Bool) (masks xs : List ℤ) (k : ℕ) (m v : ℤ) → AreMasks a b masks → IsBlock xs → k < 64 → m ≡ get_or masks k (pos 0) → v ≡ changed (int_lt m (pos 0)) (get_or xs k (pos 0)) → v ≡ get_or (signed a b xs) k (pos 0)
value_at a b masks xs k m v are h lt mask is =
    let l = masks_long a b masks are in
    let e : int_lt (get_or masks k (pos 0)) (pos 0) ≡ is_changed a b (get_or zigzag k 0) =
    sym (get_or-map (λ m. int_lt m (pos 0)) masks k (pos 0) false (omega (arith, l))) ∙ ap (λ bs. get_or bs k false) are ∙ get_or-map (is_changed a b) zigzag k 0 false lt in
    is ∙ ap (λ m. changed (int_lt m (pos 0)) (get_or xs k (pos 0))) mask ∙ ap (λ b. changed b (get_or xs k (pos 0))) e ∙ sym (at_signed a b xs k h lt)

-- the four masks, from what they mean
abbrev pub masks_of : Bool → Bool → List ℤ
masks_of a b = map (λ n. cond (is_changed a b n) (negsuc 0) (pos 0)) zigzag

abbrev pub four : List (List ℤ)
four = masks_of false false ∷ masks_of true false ∷ masks_of false true ∷ masks_of true true ∷ []

pub pick_four : (a b : Bool) (m n : ℕ) → m ≡ bool_byte a → n ≡ bool_byte b → At four (m + 2 * n) a b
pick_four a b m n e f = pick four a b m n e f refl refl refl refl

-- THE FREQUENCIES EXCHANGED

abbrev pub places : List ℕ
places = map exchanged zigzag

pub all_transposed : (P : ℤ → Type 0) (xs : List ℤ) → IsBlock xs → All P xs → All P (transposed (pos 0) xs)
all_transposed P xs h ps =
    All-from_get_or P (transposed (pos 0) xs) (pos 0)
    (λ k lt. (let l = length_transposed (pos 0) xs in
    let low : k < 64 = omega (arith, lt, l) in
    subst P (sym (transposed_at xs k low)) (All-get_or P xs (get_or places k 0) (pos 0) (omega (arith, h, place_low k low)) ps)))
