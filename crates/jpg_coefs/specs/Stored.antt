-- WHERE BLOCKS ARE STORED: component by component, and of each line by line. Lines are the rows of its padded grid, or the
-- columns.
use Rattle.std.specs.Prelude.{◌≡◌, ℕ, ◌+◌, ◌-◌, ◌*◌, ◌/◌, ◌%◌, ◌<◌, nat_lt, if◌then◌else◌, List, [], ◌∷◌, length, map, slice_index, slice_index_or, ℤ}
use Rattle.std.specs.List.{range_with_len}
use Rattle.jpg_spec.specs.Elements.{zeros}
use Rattle.jpg_spec.specs.Geometry.{Frame, component_at, padded_blocks}
use Rattle.jpg_spec.specs.FrameHeader.{IsFrame, padded_across, padded_down, padded_grid}
use Rattle.jpg_spec.specs.declared.frame.Grid.{Grid}
use Rattle.jpg_coefs.specs.Picture.{component_offset}
use Rattle.jpg_coefs.specs.declared.layout.BlockOrder.{BlockOrder}
use Rattle.jpg_coefs.specs.declared.layout.BlockOrder.TheVariants.{ByRows, ByColumns}
use Rattle.jpg_coefs.specs.declared.layout.Layout.{Layout}

-- the line of a block, by its column and row, and its place in the line
abbrev pub in_line : BlockOrder → ℕ → ℕ → ℕ × ℕ
in_line ByRows x y = (y, x)
in_line ByColumns x y = (x, y)

-- how many blocks a line has
abbrev pub line_length : BlockOrder → Grid → ℕ
line_length ByRows grid = grid.wide
line_length ByColumns grid = grid.high

-- where a block is stored
abbrev pub stored_index : Frame → BlockOrder → ℕ → ℕ → ℕ → ℕ
stored_index f order i x y =
    component_offset f i + ((in_line order x y).0 * line_length order (padded_grid f (component_at f i)) + (in_line order x y).1)

-- By columns, where the block is that by rows has number n: in a grid of so many columns and rows, and in grids one after
-- another.
abbrev pub turned_place : ℕ → ℕ → ℕ → ℕ
turned_place wide high n = n % wide * high + n / wide

abbrev pub column_place : {C : Type 0} → (C → ℕ) → (C → ℕ) → List C → ℕ → ℕ
column_place wide high [] n = n
column_place wide high (c ∷ more) n =
    if nat_lt n (wide c * high c) then turned_place (wide c) (high c) n else (wide c * high c + column_place wide high more (n - wide c * high c))

-- stored blocks, component by component and row by row
abbrev pub by_rows : Frame → BlockOrder → List (List ℤ) → List (List ℤ)
by_rows f ByRows stored = stored
by_rows f ByColumns stored =
    map (λ n. slice_index_or stored (column_place (padded_across f) (padded_down f) f.components n) (zeros 64)) (range_with_len 0 (padded_blocks f))

-- where each component begins, and how long its lines are
pub record IsLaidOut (f : Frame) (layout : Layout) : Type 0 where
  pub frame : IsFrame f
  pub begins : (i : ℕ) → i < length f.components → slice_index layout.offsets i ≡ component_offset f i
  pub long : (i : ℕ) → i < length f.components → slice_index layout.strides i ≡ line_length layout.order (padded_grid f (component_at f i))
