-- The blocks that eight rows of samples are cut in.
use Rattle.std.proofs.Common.{◌≡◌, ℕ, ◌+◌, ◌*◌, ◌/◌, ◌<◌, List, [], ◌∷◌, ◌++◌, length, map, add-one, sym, ap, ◌∙◌, subst, arith, slice_index_or}
use Rattle.std.proofs.lemmas.List.{get_or-map, length-map, map-append}
use Rattle.jpg_spec.specs.EncodingLaws.{AreSamples}
use Rattle.jpg_spec.specs.Lists.{below}
use Rattle.jpg_spec.proofs.Basics.Common.{length_below}
use Rattle.jpg_spec.proofs.Basics.Rows.{at_below}
use Rattle.jpg_spec_encode.specs.Encoded.{samples_of_block}
use Rattle.jpg_spec_image.proofs.CodedBlocks.{all_at}
use Rattle.jpg_spec_image.specs.Downsampling.{in_rows}
use Rattle.jpg_color.specs.PlaneRows.{cut_in_blocks}
use Rattle.jpg_spec_encode.proofs.EncodedWritten.{all_map, all_flat}

-- the first blocks of eight rows
abbrev pub first_blocks : ℕ → List ℕ → ℕ → List (List ℕ)
first_blocks wide rows count = map (λ x. samples_of_block (in_rows wide rows) x 0) (below count)

pub block_more : (wide : ℕ) (rows : List ℕ) (x : ℕ) {old new : List (List ℕ)} {block : List ℕ} → old ≡ first_blocks wide rows x → new ≡ old ++ block ∷ []
    → block ≡ samples_of_block (in_rows wide rows) x 0 → new ≡ first_blocks wide rows (x + 1)
block_more wide rows x {old} {new} {block} before e is =
    let f : ℕ → List ℕ = λ k. samples_of_block (in_rows wide rows) k 0 in
    e ∙ ap (λ (bs : List (List ℕ)). bs ++ block ∷ []) before ∙ ap (λ (b : List ℕ). map f (below x) ++ b ∷ []) is
    ∙ sym (map-append f (below x) (x ∷ [])) ∙ ap (λ n. map f (below n)) (sym (add-one x))

pub all_cut : (wide : ℕ) (rows : List ℕ) {count : ℕ} {blocks : List (List ℕ)} → blocks ≡ first_blocks wide rows count → count ≡ wide / 8 → blocks ≡ cut_in_blocks wide rows
unfolding cut_in_blocks
all_cut wide rows is all = is ∙ ap (first_blocks wide rows) all

-- how many there are, and each of them

pub cut_long : (wide : ℕ) (rows : List ℕ) → length (cut_in_blocks wide rows) ≡ wide / 8
unfolding cut_in_blocks
cut_long wide rows = length-map (below (wide / 8)) (λ x. samples_of_block (in_rows wide rows) x 0) ∙ length_below (wide / 8)

pub cut_at : (wide : ℕ) (rows : List ℕ) (x : ℕ) → x < wide / 8 → slice_index_or (cut_in_blocks wide rows) x [] ≡ samples_of_block (in_rows wide rows) x 0
unfolding cut_in_blocks
cut_at wide rows x there =
    let f : ℕ → List ℕ = λ k. samples_of_block (in_rows wide rows) k 0 in
    get_or-map f (below (wide / 8)) x 0 [] (omega (arith, length_below (wide / 8), there)) ∙ ap f (at_below (wide / 8) x there)

-- their samples are some of the rows

cut_samples : (wide : ℕ) (row : List ℕ) (x y : ℕ) → AreSamples row → AreSamples (samples_of_block (in_rows wide row) x y)
cut_samples wide row x y all =
    all_flat (λ s. s < 256) (λ v. map (λ u. in_rows wide row (8 * x + u) (8 * y + v)) (below 8)) (below 8)
    (λ v. all_map (λ s. s < 256) (λ u. in_rows wide row (8 * x + u) (8 * y + v)) (below 8) (λ u. all_at (λ s. s < 256) row _ 0 all (omega arith)))

pub cut_bytes : (wide : ℕ) (rows : List ℕ) (x : ℕ) → AreSamples rows → x < length (cut_in_blocks wide rows) → AreSamples (slice_index_or (cut_in_blocks wide rows) x [])
cut_bytes wide rows x all there =
    subst AreSamples (sym (cut_at wide rows x (omega (arith, there, cut_long wide rows)))) (cut_samples wide rows x 0 all)
