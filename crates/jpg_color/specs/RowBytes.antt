-- Rows of bytes in one list, row after row, each at a multiple of `line` bytes.
use Rattle.std.specs.Prelude.{◌≡◌, ℕ, ◌+◌, ◌*◌, ◌<◌, ◌⊎◌, List, length, slice_index}

-- the byte at column x of row r
abbrev pub byte_in : ℕ → List ℕ → ℕ → ℕ → ℕ
byte_in line bytes r x = slice_index bytes (r * line + x)

-- The first rows of a block of 64 are at rows from `row` on, 8 columns from a multiple of 8 on. What is above or left
-- of them doesn't change.
pub record PutsBlock (line row column rows : ℕ) (block old new : List ℕ) : Type 0 where
  pub long : length new ≡ length old
  pub there : (y x : ℕ) → y < rows → x < 8 → byte_in line new (row + y) (8 * column + x) ≡ slice_index block (8 * y + x)
  pub others : (r x : ℕ) → x < line → ((r < row) ⊎ (x < 8 * column)) → byte_in line new r x ≡ byte_in line old r x

-- This many rows from `row` on have these samples in this many columns. What is above them doesn't change.
pub record PutsRows (line row rows columns : ℕ) (sample : ℕ → ℕ → ℕ) (old new : List ℕ) : Type 0 where
  pub long : length new ≡ length old
  pub there : (y x : ℕ) → y < rows → x < columns → byte_in line new (row + y) x ≡ sample y x
  pub above : (r x : ℕ) → r < row → x < line → byte_in line new r x ≡ byte_in line old r x
