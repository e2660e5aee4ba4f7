-- The numbers of a PNM text as a reader keeps them.
use Rattle.std.specs.Prelude.{ℕ, List, [], ◌∷◌}
use Rattle.jpg_pnm_bmp.specs.declared.read.numbers.Numbers.{Numbers}
use Rattle.jpg_pnm_bmp.specs.declared.read.numbers.Numbers.TheVariants.{Nothing, Width, Sides, All}

-- the numbers, and after all three the samples
abbrev pub list_of : Numbers → List ℕ → List ℕ
list_of Nothing samples = []
list_of (Width width) samples = width ∷ []
list_of (Sides width height) samples = width ∷ height ∷ []
list_of (All width height most) samples = width ∷ height ∷ most ∷ samples
