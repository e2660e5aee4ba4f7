-- FILES OF THE WORKED EXAMPLES: gray pictures with sides of complete blocks, what they mean, and the text before the
-- data of their baseline files (T.81, B.2, JFIF 1.02).
use Rattle.std.specs.Prelude.{ℕ, ◌+◌, ◌*◌, ◌/◌, nat_lt, ◌&&◌, ◌==◌, if◌then◌else◌, List, [], ◌∷◌, ◌++◌, slice_index_or, codes, ℤ}
use Rattle.std.specs.Int.{to_be_bytes, w16}
use Rattle.jpg_spec.specs.Elements.{zeros}
use Rattle.jpg_spec.specs.Meaning.{Meaning}
use Rattle.jpg_spec.specs.declared.frame.Process.TheVariants.{Baseline}

-- a gray picture: its sides, its quantisers in zigzag order, and its blocks row by row
pub record Gray : Type 0 where
  pub width : ℕ
  pub height : ℕ
  pub quants : List ℕ
  pub blocks : List (List ℤ)

abbrev pub across : Gray → ℕ
across g = g.width / 8

abbrev pub down : Gray → ℕ
down g = g.height / 8

-- THE BYTES BEFORE THE DATA

-- version 1.01, unit 0, density 1 by 1, no thumbnail
abbrev pub plain_jfif : List ℕ
plain_jfif = codes "JFIF" ++ 0 ∷ 1 ∷ 1 ∷ 0 ∷ 0 ∷ 1 ∷ 0 ∷ 1 ∷ 0 ∷ 0 ∷ []

-- precision 8, the sides, and one component of id 1, factors 1 by 1 and quantisation table 0
abbrev pub plain_frame : ℕ → ℕ → List ℕ
plain_frame width height = 8 ∷ to_be_bytes w16 height ++ to_be_bytes w16 width ++ 1 ∷ 1 ∷ 0x11 ∷ 0 ∷ []

-- WHAT A PICTURE MEANS, and the file of the picture mirrored left to right

abbrev pub gray_meaning : Gray → Meaning
gray_meaning g = record {
  process = Baseline;
  precision = 8;
  width = g.width;
  height = g.height;
  components = record { id = 1; h = 1; v = 1; quants = g.quants } ∷ [];
  blocks = λ i x y. if i == 0 && nat_lt x (across g) && nat_lt y (down g) then slice_index_or g.blocks (y * across g + x) (zeros 64) else zeros 64;
  kept = (0xe0, plain_jfif) ∷ [];
}
