-- The state of strips: their parts, and the numbers of their picture.
use Rattle.std.specs.Prelude.{◌≡◌, ℕ, ◌+◌, ◌-◌, ◌*◌, ◌<◌, ◌≤◌, Bool, if◌then◌else◌, List, length, take, slice_index_or, map, Option, None, Some}
use Rattle.jpg_spec.specs.Lists.{below, any_of}
use Rattle.jpg_spec.specs.Geometry.{Frame}
use Rattle.jpg_spec.specs.Segments.{QuantTable}
use Rattle.jpg_spec.specs.Scan.{Blocks}
use Rattle.jpg_spec.specs.FileMeaning.{no_blocks}
use Rattle.jpg_spec.specs.Meaning.{Meaning}
use Rattle.jpg_spec_image.specs.Upsampling.{has_far_rows}
use Rattle.jpg_spec_image.specs.Pixels.{shows_gray, colour_row, samples_across, stretch_of}
use Rattle.jpg_spec_image.specs.Strips.{known_rows, lines, needed}
use Rattle.jpg_spec.specs.declared.frame.Colour.{Colour}
use Rattle.jpg_coefs.specs.Picture.{Picture}
use Rattle.jpg_color.specs.KeptRows.{HasRows}
use Rattle.jpg_color.specs.PartState.{PartState, IsPart, IsNewPart, no_drawn_part}
use Rattle.jpg_color.specs.Shown.{Display, ShownState, IsShowable, RepresentsPicture, all_rows, parts, picture_of, rows_made_ready, row_length, row_of_blocks, rows_in}

abbrev pub part_at : List PartState → ℕ → PartState
part_at ps i = slice_index_or ps i no_drawn_part

-- the first `count` components of a picture, of which no rows are kept
pub record AreNewParts (M : Meaning) (smooth : Bool) (n : ℕ) (ps : List PartState) : Type 0 where
  pub count : length ps ≡ n
  pub new : (i : ℕ) → i < n → IsNewPart M smooth i (part_at ps i)

abbrev pub display_for : Frame → Colour → List QuantTable → Bool → Bool → Display
display_for f colour quants gray smooth = record { frame = f; colour = colour; quants = quants; gray = gray; smooth = smooth }

-- what is displayed with these parts
abbrev pub shown_of : Display → ℕ → ℕ → List PartState → List ℕ → ShownState
shown_of d pushed given ps last = record { display = d; pushed = pushed; given = given; held = map (λ p. p.kept) ps; last = last }

-- a row that is made from two rows of samples waits for the one below
abbrev pub is_waiting : Display → Bool
is_waiting d = any_of (λ i. has_far_rows (stretch_of (picture_of d no_blocks) d.smooth i)) (below (parts d))

pub record AreStrips (d : Display) (pushed given : ℕ) (ps : List PartState) (row : List ℕ) (mcu_rows line_count : ℕ) (waiting : Bool) : Type 0 where
  pub showable : IsShowable d
  pub all : mcu_rows ≡ all_rows d
  pub few : mcu_rows ≤ 65500
  pub lines : line_count ≡ lines (picture_of d no_blocks)
  pub short : line_count ≤ 32
  pub waits : waiting ≡ is_waiting d
  pub count : length ps ≡ parts d
  pub parts : (i : ℕ) → i < parts d → IsPart (picture_of d no_blocks) d.smooth i (part_at ps i)
  pub last : length row ≡ row_length d
  pub stands : (blocks : Blocks) × RepresentsPicture (shown_of d pushed given ps row) blocks

-- where the blocks of the next MCU row begin
abbrev pub start_of : Bool → ShownState → ℕ → ℕ
start_of whole s i = if whole then s.pushed * rows_in s.display i else 0

-- the blocks of the next MCU row are there
pub record HasMcuRow (s : ShownState) (whole : Bool) (q : Picture) : Type 0 where
  pub rows : (i : ℕ) → i < parts s.display → HasRows q i (start_of whole s i) (samples_across (picture_of s.display no_blocks) i)
      (known_rows (picture_of s.display no_blocks) i (s.pushed + 1) - known_rows (picture_of s.display no_blocks) i s.pushed)

-- the row of the image made of lines of the parts
abbrev pub line_at : ℕ → List PartState → ℕ → List ℕ
line_at width ps i = take width (part_at ps i).line

abbrev pub coloured : Colour → Bool → ℕ → List PartState → List ℕ
coloured colour gray width ps =
    if shows_gray colour gray then line_at width ps 0
    else colour_row colour (line_at width ps 0) (line_at width ps 1) (line_at width ps 2)

-- the bytes of a row
abbrev pub coloured_length : Colour → Bool → ℕ → ℕ
coloured_length colour gray width = if shows_gray colour gray then width else 3 * width

-- lines that are long enough, of the components that are displayed
pub record AreWide (colour : Colour) (gray : Bool) (width : ℕ) (ps : List PartState) : Type 0 where
  pub count : length ps ≡ needed colour gray
  pub wide : (i : ℕ) → i < length ps → width ≤ (part_at ps i).stretch.across * (part_at ps i).stretch.wide

-- what the next row is, or that there is none
pub record IsNextRow (old : ShownState) (row : List ℕ) : Type 0 where
  pub early : old.given < rows_made_ready old.display old.pushed
  pub long : length row ≡ row_length old.display
  pub value : (blocks : Blocks) → RepresentsPicture old blocks → row ≡ row_of_blocks old.display blocks old.given

abbrev pub TellsRow : ShownState → Option (List ℕ) → Type 0
TellsRow old (Some row) = IsNextRow old row
TellsRow old None = old.given ≡ rows_made_ready old.display old.pushed
