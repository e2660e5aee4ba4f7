-- Worked examples of images that are read.
use Rattle.std.specs.Prelude.{ℕ, List, [], ◌∷◌, ◌++◌, codes}
use Rattle.jpg_spec_image.specs.ImageText.{long, short}
use Rattle.jpg_spec_image.specs.declared.image.ImageKind.TheVariants.{Gray, Rgb}
use Rattle.jpg_spec.specs.declared.frame.Limits.{Limits}
use Rattle.jpg_spec_image.specs.Images.{Image}

abbrev pub one_gray : ℕ → Image
one_gray sample = record { info = record { width = 1; height = 1; kind = Gray; x_metre = 0; y_metre = 0 }; samples = sample ∷ [] }

abbrev pub one_colour : ℕ → ℕ → ℕ → Image
one_colour r g b = record { info = record { width = 1; height = 1; kind = Rgb; x_metre = 0; y_metre = 0 }; samples = r ∷ g ∷ b ∷ [] }

abbrev pub colours_one_by_two : List ℕ → Image
colours_one_by_two samples = record { info = record { width = 1; height = 2; kind = Rgb; x_metre = 2835; y_metre = 0 }; samples = samples }

-- a BMP header: where the pixels begin, height, depth, compression, colours used
abbrev pub bmp_head : ℕ → ℕ → ℕ → ℕ → ℕ → List ℕ
bmp_head bmp_offset height bmp_depth compression colours =
    (codes "BM" ++ long 0 ++ long 0 ++ long bmp_offset)
    ++ (long 40 ++ long 1 ++ long height ++ short 1 ++ short bmp_depth ++ long compression ++ long 0)
    ++ (long 2835 ++ long 0 ++ long colours ++ long 0)

abbrev pub ten_bytes : Limits
ten_bytes = record { side = 65500; blocks = 1; kept = 0; input = 10 }
