-- The blocks of a picture, component by component, row by row of the padded grids (T.81, A.2.4).
use Rattle.std.specs.Prelude.{◌≡◌, ℕ, ◌+◌, ◌*◌, Bool, false, nat_lt, ◌&&◌, if◌then◌else◌, List, length, take, sum_by, slice_index_or, slice_set, ℤ, pos}
use Rattle.jpg_spec.specs.Elements.{zeros}
use Rattle.jpg_spec.specs.Geometry.{Frame, component_at, padded_blocks}
use Rattle.jpg_spec.specs.FrameHeader.{padded_across, padded_down}
use Rattle.jpg_spec.specs.PictureInWork.{is_in_band}
use Rattle.jpg_spec.specs.Scan.{Blocks, Scan, coefficient}
use Rattle.jpg_spec.specs.declared.frame.Component.{Component}
use Rattle.jpg_spec.specs.declared.frame.Place.{Place}
use Rattle.jpg_base.specs.Cursor.{IsPadded}

pub record Picture : Type 0 where
  pub frame : Frame
  pub blocks : List (List ℤ)

-- the blocks of a component's padded grid, and of the components before it
abbrev pub grid_blocks : Frame → Component → ℕ
grid_blocks f c = padded_across f c * padded_down f c

abbrev pub component_offset : Frame → ℕ → ℕ
component_offset f i = sum_by (grid_blocks f) (take i f.components)

-- the number of a block
abbrev pub block_index : Frame → ℕ → ℕ → ℕ → ℕ
block_index f i x y = component_offset f i + (y * padded_across f (component_at f i) + x)

-- whether a place is in its component's padded grid
abbrev pub is_padded : Frame → ℕ → ℕ → ℕ → Bool
is_padded f i x y = nat_lt i (length f.components) && (nat_lt x (padded_across f (component_at f i)) && nat_lt y (padded_down f (component_at f i)))

-- the block at a place of a padded grid
abbrev pub block_in : Picture → ℕ → ℕ → ℕ → List ℤ
block_in p i x y = slice_index_or p.blocks (block_index p.frame i x y) (zeros 64)

-- The picture as a map of blocks, zero outside the padded grids.
abbrev pub map_of : Picture → Blocks
map_of p i x y = if is_padded p.frame i x y then block_in p i x y else zeros 64

abbrev pub with_block : Picture → ℕ → ℕ → ℕ → List ℤ → Picture
with_block p i x y block = record p { blocks = slice_set p.blocks (block_index p.frame i x y) block }

-- with this block at a place of a scan
abbrev pub put_at : Picture → Place → List ℤ → Picture
put_at q p block = with_block q p.component p.x p.y block

-- the place is in the padded grid, and all blocks are there
pub record HasPlace (q : Picture) (p : Place) : Type 0 where
  pub place : IsPadded q.frame p.component p.x p.y
  pub count : length q.blocks ≡ padded_blocks q.frame

-- a block of 64 values, which outside the scan's band are those of the block at the place
pub record KeepsOutside (s : Scan) (q : Picture) (p : Place) (block : List ℤ) : Type 0 where
  pub size : length block ≡ 64
  pub same : (k : ℕ) → is_in_band s k ≡ false → slice_index_or block k (pos 0) ≡ coefficient (map_of q) p.component p.x p.y k
