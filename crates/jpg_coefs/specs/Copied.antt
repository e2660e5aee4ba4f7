-- Blocks that are put into a picture, place after place: component by component, row by row of the real grids.
use Rattle.std.specs.Prelude.{◌≡◌, ℕ, Bool, nat_lt, ◌&&◌, ◌==◌, length, if◌then◌else◌}
use Rattle.jpg_spec.specs.Geometry.{Frame, component_at, blocks_across, blocks_down, is_real}
use Rattle.jpg_spec.specs.Scan.{Blocks}
use Rattle.jpg_coefs.specs.Picture.{Picture, map_of}

-- this place
abbrev pub is_place : ℕ → ℕ → ℕ → (ℕ → ℕ → ℕ → Bool)
is_place i x y j u v = j == i && (u == x && v == y)

-- the first places of a row
abbrev pub in_row : ℕ → ℕ → ℕ → (ℕ → ℕ → ℕ → Bool)
in_row i y count j u v = j == i && (nat_lt u count && v == y)

-- the first rows of a component
abbrev pub in_first_rows : Frame → ℕ → ℕ → (ℕ → ℕ → ℕ → Bool)
in_first_rows f i count j u v = j == i && (nat_lt u (blocks_across f (component_at f i)) && nat_lt v count)

-- the first components
abbrev pub in_components : Frame → ℕ → (ℕ → ℕ → ℕ → Bool)
in_components f count j u v = nat_lt j count && is_real f j u v

-- complete rows, components and frames
abbrev pub in_grid_row : Frame → ℕ → ℕ → (ℕ → ℕ → ℕ → Bool)
in_grid_row f i y = in_row i y (blocks_across f (component_at f i))

abbrev pub in_grid : Frame → ℕ → (ℕ → ℕ → ℕ → Bool)
in_grid f i = in_first_rows f i (blocks_down f (component_at f i))

abbrev pub in_grids : Frame → (ℕ → ℕ → ℕ → Bool)
in_grids f = in_components f (length f.components)

-- At the chosen places blocks are those of the view, and all others are as before.
pub record CopiesBlocks (chosen : ℕ → ℕ → ℕ → Bool) (seen : Blocks) (old new : Picture) : Type 0 where
  pub frame : new.frame ≡ old.frame
  pub blocks : (i x y : ℕ) → map_of new i x y ≡ (if chosen i x y then seen i x y else map_of old i x y)
