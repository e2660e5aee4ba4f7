-- WORKED EXAMPLES: small pictures, the bytes of their files, and the places of the blocks of a mirrored picture.
use Rattle.std.specs.Prelude.{ℕ, zero, suc, ◌+◌, ◌*◌, ◌==◌, if◌then◌else◌, List, [], ◌∷◌, ◌++◌, replicate, slice_index_or, ℤ, pos, negsuc}
use Rattle.jpg_spec.specs.Meaning.{Meaning}
use Rattle.jpg_spec_image.specs.declared.image.ImageKind.TheVariants as image
use Rattle.jpg_spec_image.specs.declared.image.ImageInfo.{ImageInfo}
use Rattle.jpg_spec.specs.Examples.{flat_block, three_components}

-- the three components with blocks of only a DC value, row by row
abbrev pub flat_values : ℕ → List ℤ
flat_values zero = pos 100 ∷ negsuc 199 ∷ pos 300 ∷ negsuc 399 ∷ pos 500 ∷ negsuc 599 ∷ []
flat_values (suc zero) = pos 200 ∷ negsuc 99 ∷ []
flat_values (suc (suc i)) = negsuc 299 ∷ pos 400 ∷ []

abbrev pub flat_picture : Meaning
flat_picture = three_components (λ i x y. flat_block (slice_index_or (flat_values i) (if i == 0 then 3 * y + x else x) (pos 0)))

-- an image of 8 by 8 gray pixels of 128, and one of 2 by 1 colours
abbrev pub gray_square : ImageInfo
gray_square = record { width = 8; height = 8; kind = image.Gray; x_metre = 0; y_metre = 0 }

abbrev pub gray_rows : List (List ℕ)
gray_rows = replicate 8 (replicate 8 128)

abbrev pub two_colours : ImageInfo
two_colours = record { width = 2; height = 1; kind = image.Rgb; x_metre = 0; y_metre = 0 }

-- the ninth row of the flat picture's pixels
abbrev pub ninth_row : List (List ℕ)
ninth_row = replicate 8 (26 ∷ 96 ∷ 122 ∷ []) ++ replicate 7 (139 ∷ 209 ∷ 235 ∷ []) ++ (170 ∷ 196 ∷ 219 ∷ []) ∷ (92 ∷ 34 ∷ 48 ∷ []) ∷ []
