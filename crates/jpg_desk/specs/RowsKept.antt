-- A PICTURE whose MCU rows are put in one at a time, from the top (T.81, A.2.3).
use Rattle.std.specs.Prelude.{◌≡◌, ◌==◌, ◌&&◌, ℕ, ◌+◌, ◌-◌, ◌*◌, ◌<◌, ◌≤◌, Bool, true, false, nat_le, nat_lt, length}
use Rattle.jpg_spec.specs.Elements.{zeros}
use Rattle.jpg_spec.specs.FrameHeader.{IsFrame}
use Rattle.jpg_spec.specs.Geometry.{Frame, blocks_across, bounds, component_at, mcu_row_frame}
use Rattle.jpg_spec.specs.Ranges.{AreInRange}
use Rattle.jpg_spec.specs.Scan.{Blocks}
use Rattle.jpg_coefs.specs.Picture.{Picture as Coefs, map_of}
use Rattle.jpg_seq.specs.Reader.{rows_in_mcu}
use Rattle.jpg_file.specs.Read.ReadFile.{AgreeInRows, LendsRow}
use Rattle.jpg_transform.specs.RowsMoved.{mcu_rows}
use Rattle.jpg_desk.specs.declared.row_picture.RowPicture.{RowPicture}

-- In it are the first `k` MCU rows of these blocks; all others are zero.
pub record HasKept (f : Frame) (k : ℕ) (blocks : Blocks) (r : RowPicture) : Type 0 where
  pub framed : r.coefs.frame ≡ f
  pub is_frame : IsFrame f
  pub count : r.rows ≡ k
  pub range : AreInRange (bounds f) (map_of r.coefs)
  pub agree : AgreeInRows f k blocks (map_of r.coefs)
  pub zero : (i x y : ℕ) → k * rows_in_mcu f i ≤ y → map_of r.coefs i x y ≡ zeros 64

-- These are the blocks of the next MCU row.
pub record CanKeep (f : Frame) (k : ℕ) (blocks : Blocks) (row : Coefs) (r : RowPicture) : Type 0 where
  pub has : HasKept f k blocks r
  pub next : k < mcu_rows f
  pub lends : LendsRow f k row blocks

-- One more MCU row is in it.
abbrev pub KeepsRow : RowPicture → Coefs → RowPicture → Type 0
KeepsRow old row new = (f : Frame) (k : ℕ) (blocks : Blocks) → CanKeep f k blocks row old → HasKept f (k + 1) blocks new

-- whether all are
pub record IsToldWhole (f : Frame) (k : ℕ) (whole : Bool) : Type 0 where
  pub all : whole ≡ true → mcu_rows f ≤ k
  pub more : whole ≡ false → k < mcu_rows f

-- There is an MCU row `k`, and `g` is the frame of an MCU row.
pub record IsNextRow (f : Frame) (k : ℕ) (g : Frame) : Type 0 where
  pub is_frame : IsFrame f
  pub framed : g ≡ mcu_row_frame f
  pub next : k < mcu_rows f

-- THE PLACES of an MCU row

-- some rows of blocks of a component, from one of them on
abbrev pub in_lines : Frame → ℕ → ℕ → ℕ → ℕ → ℕ → Bool
in_lines f top count i x y = nat_lt x (blocks_across f (component_at f i)) && (nat_le top y && nat_lt y (top + count))

-- the first rows of blocks of a component in MCU row `k`, and all of them
abbrev pub in_first_lines : Frame → ℕ → ℕ → ℕ → (ℕ → ℕ → ℕ → Bool)
in_first_lines f k i count j x y = j == i && in_lines f (k * rows_in_mcu f i) count i x y

abbrev pub in_part : Frame → ℕ → ℕ → (ℕ → ℕ → ℕ → Bool)
in_part f k i = in_first_lines f k i (rows_in_mcu f i)

-- the first components of MCU row `k`, and all of them
abbrev pub in_first_parts : Frame → ℕ → ℕ → (ℕ → ℕ → ℕ → Bool)
in_first_parts f k count j x y = nat_lt j count && in_lines f (k * rows_in_mcu f j) (rows_in_mcu f j) j x y

abbrev pub in_mcu_row : Frame → ℕ → (ℕ → ℕ → ℕ → Bool)
in_mcu_row f k = in_first_parts f k (length f.components)

-- THE BLOCKS that are put there: those of MCU row `k`, and those of one of its rows of blocks
abbrev pub row_blocks : Frame → ℕ → Coefs → Blocks
row_blocks f k row i x y = map_of row i x (y - k * rows_in_mcu f i)

abbrev pub line_blocks : Coefs → ℕ → Blocks
line_blocks row from i x y = map_of row i x from
