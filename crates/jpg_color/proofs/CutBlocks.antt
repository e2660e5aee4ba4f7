-- Blocks among rows of samples.
use Rattle.std.proofs.Common.{◌≡◌, ℕ, ◌+◌, ◌-◌, ◌*◌, ◌<◌, ◌≤◌, List, [], ◌∷◌, ◌++◌, length, take, drop, slice_index, map, add-one, refl, sym, ap, ◌∙◌, arith}
use Rattle.std.specs.Prelude.{flat_map}
use Rattle.std.proofs.lemmas.Nat.{mul-le}
use Rattle.std.proofs.lemmas.List.{take_all, append-nil, length-drop, length-take-le, get_or-take, get_or-drop}
use Rattle.std.proofs.lemmas.Grind.{flat_map-append}
use Rattle.std.proofs.lemmas.Simd.{length-put_chunk, put_chunk_whole}
use Rattle.std.proofs.lemmas.Slice.{take-put_mid}
use borrow.Rule.Slice.PartMut.{put_mid}
use lib.Lanes.{chunk, put_chunk}
use Rattle.jpg_spec.specs.Lists.{below}
use Rattle.jpg_spec_image.specs.Downsampling.{in_rows}
use Rattle.jpg_spec_encode.specs.Encoded.{samples_of_block, pixel_component}
use Rattle.jpg_spec_image.specs.declared.image.ImageKind.{ImageKind}
use Rattle.jpg_spec_image.specs.declared.image.ImageKind.TheVariants.{Gray}
use Rattle.jpg_color.specs.ColourRows.{numbers_of_pixel, row_component}
use Rattle.jpg_spec.proofs.Basics.Rows.{by_items}
use Rattle.jpg_color.proofs.PlaneRows.{put_long}

abbrev pub block_row : List ℕ → ℕ → ℕ → ℕ → List ℕ
block_row rows wide x v = map (λ u. in_rows wide rows (8 * x + u) (8 * 0 + v)) (below 8)

pub row_more : (rows samples new row : List ℕ) (wide x v : ℕ) → take (8 * v) samples ≡ flat_map (block_row rows wide x) (below v)
    → take (8 * v + 8) new ≡ take (8 * v) samples ++ row → row ≡ block_row rows wide x v → take (8 * (v + 1)) new ≡ flat_map (block_row rows wide x) (below (v + 1))
row_more rows samples new row wide x v e is er =
    let n : 8 * (v + 1) ≡ 8 * v + 8 = omega arith in
    ap (λ m. take m new) n ∙ is ∙ ap (λ ys. ys ++ row) e ∙ ap (λ ys. flat_map (block_row rows wide x) (below v) ++ ys) (er ∙ sym (append-nil (block_row rows wide x v)))
    ∙ sym (flat_map-append (block_row rows wide x) (below v) (v ∷ [])) ∙ ap (λ m. flat_map (block_row rows wide x) (below m)) (sym (add-one v))

pub block_done : (rows samples : List ℕ) (wide x v : ℕ) → v ≡ 8 → length samples ≡ 64 → take (8 * v) samples ≡ flat_map (block_row rows wide x) (below v) → samples ≡ samples_of_block (in_rows wide rows) x 0
block_done rows samples wide x v ev long e = sym (take_all (8 * v) samples (omega (arith, ev, long))) ∙ e ∙ ap (λ n. flat_map (block_row rows wide x) (below n)) ev

-- eight samples that are stored as a vector
eight_stored : (mid row : List ℕ) → length mid ≡ 8 → length row ≡ 8 → put_chunk 0 mid (chunk 0 8 row) ≡ row
eight_stored mid row lm lr = ap (put_chunk 0 mid) (take_all 8 row (omega (arith, lr))) ∙ put_chunk_whole mid row (lm ∙ sym lr)

pub row_stored : (v n : ℕ) (samples row mid : List ℕ) → v < 8 → length samples ≡ 64 → length row ≡ 8 → length mid ≡ 8
    → take (8 * v + 8) (put_mid (8 * v) n samples (put_chunk 0 mid (chunk 0 8 row))) ≡ take (8 * v) samples ++ row
row_stored v n samples row mid lv long lr lm =
    ap (λ r. take (8 * v + 8) (put_mid (8 * v) n samples r)) (eight_stored mid row lm lr) ∙ take-put_mid (8 * v) n samples row (8 * v + 8) (omega (arith, lr)) (omega (arith, lv, long))

pub stored_long : (v n : ℕ) (samples row mid : List ℕ) → v < 8 → n ≡ 8 → length samples ≡ 64 → length mid ≡ 8
    → length (put_mid (8 * v) n samples (put_chunk 0 mid (chunk 0 8 row))) ≡ 64
stored_long v n samples row mid lv en long lm =
    put_long (8 * v) n samples (put_chunk 0 mid (chunk 0 8 row)) (omega (arith, lv, en, long)) (length-put_chunk 0 mid (chunk 0 8 row) ∙ lm ∙ sym en) ∙ long

-- a grayscale row is its component
pub gray_is : (kind : ImageKind) (row : List ℕ) (i n : ℕ) → kind ≡ Gray → length row ≡ numbers_of_pixel kind * n → row ≡ row_component kind row i n
unfolding row_component
gray_is kind row i n e long =
    let l : length row ≡ n = long ∙ ap (λ k. numbers_of_pixel k * n) e ∙ omega arith in
    sym (ap (λ k. map (pixel_component k row i) (below n)) e ∙ by_items n (slice_index row) row 0 l (λ j h. refl))

-- eight samples of row v, as a part of the rows
pub sub_row : (rows : List ℕ) (wide x v : ℕ) → 8 * x + 8 ≤ wide → length rows ≡ 8 * wide → v < 8
    → take (v * wide + 8 * x + 8 - (v * wide + 8 * x)) (drop (v * wide + 8 * x) rows) ≡ block_row rows wide x v
sub_row rows wide x v there long lv =
    let m : v * wide ≤ 7 * wide = mul-le v wide 7 wide (omega (arith, lv)) (omega arith) in
    let n : v * wide + 8 * x + 8 - (v * wide + 8 * x) ≡ 8 = omega arith in
    let part : List ℕ = take 8 (drop (v * wide + 8 * x) rows) in
    let d : length (drop (v * wide + 8 * x) rows) ≡ 8 * wide - (v * wide + 8 * x) = length-drop (v * wide + 8 * x) rows ∙ ap (λ k. k - (v * wide + 8 * x)) long in
    let l : length part ≡ 8 = length-take-le 8 (drop (v * wide + 8 * x) rows) (omega (arith, d, m, there)) in
    ap (λ k. take k (drop (v * wide + 8 * x) rows)) n
    ∙ sym (by_items 8 (λ u. in_rows wide rows (8 * x + u) (8 * 0 + v)) part 0 l
    (λ u lu. (let e : v * wide + 8 * x + u ≡ v * wide + (8 * x + u) = omega arith in
    let z : (8 * 0 + v) * wide ≡ v * wide = ap (λ k. k * wide) (omega arith) in
    ap (λ k. slice_index rows (k + (8 * x + u))) z ∙ ap (slice_index rows) (sym e)
    ∙ sym (get_or-take 8 (drop (v * wide + 8 * x) rows) u 0 lu ∙ get_or-drop (v * wide + 8 * x) rows u 0))))
