-- Blocks of which most take half of their memory (a byte for each AC), and what they stand for.
use Rattle.std.specs.Prelude.{◌≡◌, ℕ, ◌+◌, ◌-◌, ◌*◌, ◌/◌, ◌%◌, ◌<◌, ◌≤◌, ◌==◌, if◌then◌else◌, List, [], length, map, slice_index_or, sum_by, ℤ, pos, negsuc, ◌≤ℤ◌, All}
use Rattle.std.specs.Int.{cast_signed, cast_unsigned, w8, w16}
use Rattle.std.specs.List.{range_with_len}
use Rattle.jpg_coefs.specs.declared.cell.Cell.{Cell}

-- THE BYTES of a number: its low and its high one, as numbers of eight bits, and the number of two such bytes
abbrev pub low_of : ℤ → ℤ
low_of v = cast_signed w8 (cast_unsigned w16 v % 256)

abbrev pub high_of : ℤ → ℤ
high_of v = cast_signed w8 (cast_unsigned w16 v / 256)

abbrev pub whole_of : ℤ → ℤ → ℤ
whole_of high low = cast_signed w16 (cast_unsigned w8 high * 256 + cast_unsigned w8 low)

-- a number of eight bits
abbrev pub IsByte : ℤ → Type 0
IsByte v = (negsuc 127 ≤ℤ v) × (v ≤ℤ pos 127)

-- the number of a block at a place
abbrev pub at : List ℤ → ℕ → ℤ
at block k = slice_index_or block k (pos 0)

-- all but its first one are such
abbrev pub AreShort : List ℤ → Type 0
AreShort block = (k : ℕ) → 1 ≤ k → k < 64 → IsByte (at block k)

-- its low bytes, and its high ones
abbrev pub HasLows : List ℤ → List ℤ → Type 0
HasLows block low = (k : ℕ) → k < 64 → at low k ≡ low_of (at block k)

abbrev pub HasHighs : List ℤ → List ℤ → Type 0
HasHighs block high = (k : ℕ) → k < 64 → at high k ≡ high_of (at block k)

-- THE BLOCK OF A CELL
abbrev pub short_value : ℤ → List ℤ → ℕ → ℤ
short_value first low k = if k == 0 then first else at low k

abbrev pub value_at : List (List ℤ) → Cell → ℕ → ℤ
value_at highs c k = if c.room == 0 then short_value c.first c.low k else whole_of (at (slice_index_or highs (c.room - 1) []) k) (at c.low k)

abbrev pub cell_block : List (List ℤ) → Cell → List ℤ
cell_block highs c = map (value_at highs c) (range_with_len 0 64)

abbrev pub packed_blocks : List (List ℤ) → List Cell → List (List ℤ)
packed_blocks highs cells = map (cell_block highs) cells

-- a zero block
pub record IsZeroCell (c : Cell) : Type 0 where
  pub first : c.first ≡ pos 0
  pub room : c.room ≡ 0
  pub low : (k : ℕ) → at c.low k ≡ pos 0

-- WHO HAS HIGH BYTES: 1 for a cell that has some
abbrev pub has_room : Cell → ℕ
has_room c = if c.room == 0 then 0 else 1

-- a cell without a block
abbrev pub no_cell : Cell
no_cell = record { first = pos 0; room = 0; low = [] }

-- the number of the high bytes of cell n, and one more
abbrev pub room_at : List Cell → ℕ → ℕ
room_at cells n = (slice_index_or cells n no_cell).room

-- Each cell with high bytes has its own, and there is room for those of all.
pub record IsPacked (highs : List (List ℤ)) (cells : List Cell) (capacity : ℕ) : Type 0 where
  pub below : All (λ c. c.room ≤ length highs) cells
  pub apart : (m n : ℕ) → m < length cells → n < length cells → 1 ≤ room_at cells m → room_at cells m ≡ room_at cells n → m ≡ n
  pub count : sum_by has_room cells ≡ length highs
  pub space : length cells ≤ capacity
  pub small : length cells < 4294967296
