-- Worked examples of Targa files that are read.
use Rattle.std.specs.Prelude.{ℕ, List, [], ◌∷◌, ◌++◌, replicate}
use Rattle.jpg_spec_image.specs.Images.{Image}
use Rattle.jpg_spec_image.specs.declared.image.ImageKind.TheVariants.{Gray, Rgb}

-- the header of an image of one-byte sides: how long its identifier is, its type, sides, depth and descriptor
abbrev pub targa_head : ℕ → ℕ → ℕ → ℕ → ℕ → ℕ → List ℕ
targa_head identifier type width height depth descriptor =
    (identifier ∷ 0 ∷ type ∷ replicate 9 0) ++ (width ∷ 0 ∷ height ∷ 0 ∷ depth ∷ descriptor ∷ [])

abbrev pub gray_image : ℕ → ℕ → List ℕ → Image
gray_image width height samples = record { info = record { width = width; height = height; kind = Gray; x_metre = 0; y_metre = 0 }; samples = samples }

abbrev pub colour_image : ℕ → ℕ → List ℕ → Image
colour_image width height samples = record { info = record { width = width; height = height; kind = Rgb; x_metre = 0; y_metre = 0 }; samples = samples }
