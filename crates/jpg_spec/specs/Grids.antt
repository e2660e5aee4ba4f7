-- The sides of a picture and the factors of its components, on which alone the places of its blocks depend.
use Rattle.std.specs.Prelude.{ℕ, List, map}
use Rattle.jpg_spec.specs.Geometry.{Frame}
use Rattle.jpg_spec.specs.Meaning.{Meaning}

-- GRIDS: the sides, and the factors of the components, which determine the places of blocks

pub record Grids : Type 0 where
  pub width : ℕ
  pub height : ℕ
  pub across : List ℕ
  pub down : List ℕ

abbrev pub frame_grids : Frame → Grids
frame_grids f = record { width = f.width; height = f.height; across = map (λ c. c.h) f.components; down = map (λ c. c.v) f.components }

abbrev pub picture_grids : Meaning → Grids
picture_grids M = record { width = M.width; height = M.height; across = map (λ c. c.h) M.components; down = map (λ c. c.v) M.components }
