-- WORKED EXAMPLES: small pictures, the bytes of their files, and the places of the blocks of a mirrored picture.
use Rattle.std.specs.Prelude.{ℕ, true, false, List, [], ◌∷◌, replicate, ℤ}
use Rattle.jpg_spec.specs.Geometry.{Frame}
use Rattle.jpg_spec.specs.Elements.{zeros}
use Rattle.jpg_spec.specs.Scan.{Blocks}
use Rattle.jpg_spec.specs.Meaning.{Meaning, picture_frame}
use Rattle.jpg_spec.specs.ExampleFiles.{Gray}
use Rattle.jpg_spec.specs.declared.frame.Process.TheVariants.{Baseline}
use Rattle.jpg_spec.specs.declared.frame.Place.{Place}

-- all quantisers 1
abbrev pub ones : List ℕ
ones = replicate 64 1

abbrev pub gray_of : ℕ → ℕ → List (List ℤ) → Gray
gray_of width height blocks = record { width = width; height = height; quants = ones; blocks = blocks }

-- a block of only a DC value
abbrev pub flat_block : ℤ → List ℤ
flat_block v = v ∷ zeros 63

-- 8 by 8, all values 0
abbrev pub smallest : Gray
smallest = gray_of 8 8 (zeros 64 ∷ [])

-- 17 BY 16 in three components, the first of which has twice the samples of the others horizontally and vertically

abbrev pub three_components : Blocks → Meaning
three_components blocks = record {
  process = Baseline;
  precision = 8;
  width = 17;
  height = 16;
  components = record { id = 1; h = 2; v = 2; quants = ones } ∷ record { id = 2; h = 1; v = 1; quants = ones } ∷ record { id = 3; h = 1; v = 1; quants = ones } ∷ [];
  blocks = blocks;
  kept = [];
}

abbrev pub three_frame : Frame
three_frame = picture_frame (three_components (λ i x y. zeros 64))

abbrev pub real_at : ℕ → ℕ → ℕ → Place
real_at i x y = record { component = i; x = x; y = y; real = true }

abbrev pub padding_at : ℕ → ℕ → ℕ → Place
padding_at i x y = record { component = i; x = x; y = y; real = false }

-- the units of an interleaved scan of the three: two MCUs of six blocks
abbrev pub three_units : List Place
three_units =
    real_at 0 0 0 ∷ real_at 0 1 0 ∷ real_at 0 0 1 ∷ real_at 0 1 1 ∷ real_at 1 0 0 ∷ real_at 2 0 0 ∷
    real_at 0 2 0 ∷ padding_at 0 3 0 ∷ real_at 0 2 1 ∷ padding_at 0 3 1 ∷ real_at 1 1 0 ∷ real_at 2 1 0 ∷ []
