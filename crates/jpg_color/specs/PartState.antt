-- One component that is displayed: its numbers, the rows of samples that are kept of it, and what its rows of the image
-- are made from.
use Rattle.std.specs.Prelude.{◌≡◌, ℕ, ◌+◌, ◌-◌, ◌*◌, ◌<◌, ◌≤◌, min, Bool, true, false, ◌&&◌, ◌==◌, if◌then◌else◌, List, [], length}
use Rattle.jpg_spec.specs.FileMeaning.{no_blocks}
use Rattle.jpg_spec.specs.Segments.{QuantTable}
use Rattle.jpg_spec.specs.Meaning.{Meaning}
use Rattle.jpg_spec.specs.Meaning.{component_of}
use Rattle.jpg_spec_image.specs.Upsampling.{Stretch, has_far_rows, near_row, far_row, repeat_row, up_row, up_rows2, upsampled_row}
use Rattle.jpg_spec_image.specs.Pixels.{stretch_of}
use Rattle.jpg_spec_image.specs.Strips.{block_rows, kept_row}
use Rattle.jpg_coefs.specs.Picture.{Picture, map_of}
use Rattle.jpg_file.specs.Read.PictureKept.{bare_picture}
use Rattle.jpg_file.specs.declared.read.strip_head.StripHead.{StripHead}
use Rattle.jpg_sample.specs.declared.ratio.Ratio.{Ratio}
use Rattle.jpg_color.specs.KeptRows.{KeptRows, HasRows, with_gray, with_block_rows}

pub record PartState : Type 0 where
  pub component : ℕ
  pub stretch : Stretch
  pub block_rows : ℕ
  pub quants : QuantTable
  pub kept : KeptRows
  pub line : List ℕ

-- a plane of these sizes and ratios
abbrev pub stretch_by : ℕ → ℕ → Ratio → Bool → Stretch
stretch_by wide high ratio smooth = record { wide = wide; high = high; across = ratio.across; down = ratio.down; smooth = smooth }

abbrev pub state_of : ℕ → Stretch → ℕ → QuantTable → KeptRows → List ℕ → PartState
state_of component stretch block_rows quants kept line =
    record { component = component; stretch = stretch; block_rows = block_rows; quants = quants; kept = kept; line = line }

abbrev pub no_rows : KeptRows
no_rows = record { wide = 0; room = 0; rows = [] }

abbrev pub no_drawn_part : PartState
no_drawn_part = state_of 0 (record { wide = 0; high = 0; across = 0; down = 0; smooth = false }) 0 [] no_rows []

-- the bounds of its numbers
pub record AreSizes (s : Stretch) (rows : ℕ) : Type 0 where
  pub wide_low : 1 ≤ s.wide
  pub wide_high : s.wide ≤ 65500
  pub high_low : 1 ≤ s.high
  pub high_high : s.high ≤ 65500
  pub across_high : s.across ≤ 4
  pub down_low : 1 ≤ s.down
  pub down_high : s.down ≤ 4
  pub rows_low : 1 ≤ rows
  pub rows_high : rows ≤ 4

-- Each row that is kept is as long as a row of the plane, and the row of the image as long as the repeated samples.
pub record IsMeasured (p : PartState) : Type 0 where
  pub sizes : AreSizes p.stretch p.block_rows
  pub wide : p.kept.wide ≡ p.stretch.wide
  pub room : p.kept.room ≡ 8 * p.block_rows + 1
  pub line : length p.line ≡ p.stretch.across * p.stretch.wide

-- component i of a picture
pub record IsPart (M : Meaning) (smooth : Bool) (i : ℕ) (p : PartState) : Type 0 where
  pub component : p.component ≡ i
  pub stretch : p.stretch ≡ stretch_of M smooth i
  pub rows : p.block_rows ≡ block_rows M i
  pub quants : p.quants ≡ (component_of M i).quants
  pub wide : p.kept.wide ≡ p.stretch.wide

-- component i of a picture, of which no row is kept
pub record IsNewPart (M : Meaning) (smooth : Bool) (i : ℕ) (p : PartState) : Type 0 where
  pub part : IsPart M smooth i p
  pub none : p.kept.rows ≡ []

-- the rows of samples that are known after m MCU rows, those that the next one adds, and the first that is kept after m
abbrev pub known : PartState → ℕ → ℕ
known p m = min (8 * p.block_rows * m) p.stretch.high

abbrev pub rows_so_far_of : PartState → ℕ → ℕ
rows_so_far_of p m = known p (m + 1) - known p m

abbrev pub top : PartState → ℕ → ℕ
top p m = 8 * p.block_rows * (m - 1) - 1

-- the row of blocks where MCU row m begins: of a complete picture, or of only the MCU row
abbrev pub begins : Bool → ℕ → PartState → ℕ
begins whole m p = if whole then m * p.block_rows else 0

-- the blocks of MCU row m are there
pub record CanFill (q : Picture) (whole : Bool) (m : ℕ) (p : PartState) : Type 0 where
  pub early : m < 65536
  pub few : rows_so_far_of p m ≤ 8 * p.block_rows
  pub blocks : HasRows q p.component (begins whole m p) p.kept.wide (rows_so_far_of p m)

abbrev pub filled : Picture → Bool → ℕ → PartState → PartState
filled q whole m p = record p { kept = with_block_rows p.kept p.quants (map_of q) p.component (begins whole m p) (rows_so_far_of p m) }

-- Zero blocks may be taken as MCU row m.
pub record CanFillGray (m : ℕ) (p : PartState) : Type 0 where
  pub early : m < 65536
  pub few : rows_so_far_of p m ≤ 8 * p.block_rows

abbrev pub grayed_part : ℕ → PartState → PartState
grayed_part m p = record p { kept = with_gray p.kept (rows_so_far_of p m) }

-- the rows of samples that row y of the image is made from are kept after m MCU rows
pub record CanDraw (y m : ℕ) (p : PartState) : Type 0 where
  pub early : m < 65536
  pub low : top p m ≤ near_row p.stretch y
  pub high : near_row p.stretch y - top p m < length p.kept.rows
  pub far_low : has_far_rows p.stretch ≡ true → top p m ≤ far_row p.stretch y
  pub far_high : has_far_rows p.stretch ≡ true → far_row p.stretch y - top p m < length p.kept.rows

-- a row of the image, of the row near it and perhaps of the far one
abbrev pub upsampled_from : List ℕ → List ℕ → Bool → ℕ → ℕ → List ℕ
upsampled_from near far smoothed across down =
    if smoothed && down == 2 then up_rows2 near far
    else if smoothed && down == 1 then up_row near
    else repeat_row across near

abbrev pub drawn : ℕ → ℕ → PartState → PartState
drawn y m p = record p { line = upsampled_row p.stretch (kept_row (top p m) p.kept.rows) y }

-- The sizes of component i of a picture of this head, and of the first of them, are those that a part may have.
abbrev pub head_picture : StripHead → Meaning
head_picture h = bare_picture h.frame h.quants.items no_blocks

abbrev pub IsSized : StripHead → Bool → ℕ → Type 0
IsSized h smooth i = AreSizes (stretch_of (head_picture h) smooth i) (block_rows (head_picture h) i)

abbrev pub AreSized : StripHead → Bool → ℕ → Type 0
AreSized h smooth count = (i : ℕ) → i < count → IsSized h smooth i
