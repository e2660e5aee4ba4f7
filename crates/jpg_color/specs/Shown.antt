-- A picture that is displayed row by row: which MCU rows were taken, and which rows were given.
use Rattle.std.specs.Prelude.{◌≡◌, ℕ, ◌+◌, ◌*◌, ◌<◌, Bool, true, false, if◌then◌else◌, List, [], length, map, slice_index_or, Option, None, Some}
use Rattle.jpg_spec.specs.Geometry.{Frame, bounds, blocks_across, blocks_down, component_at, mcu_row_frame}
use Rattle.jpg_spec.specs.FrameHeader.{IsFrame}
use Rattle.jpg_spec.specs.Segments.{QuantTable}
use Rattle.jpg_spec.specs.Scan.{Blocks}
use Rattle.jpg_spec.specs.Ranges.{AreInRange}
use Rattle.jpg_spec.specs.FileMeaning.{no_blocks}
use Rattle.jpg_spec.specs.Meaning.{Meaning}
use Rattle.jpg_spec_image.specs.Pixels.{shows_gray, shown_row, out_fault_of}
use Rattle.jpg_spec_image.specs.Strips.{block_rows, mcu_rows, needed, ready, IsHeld}
use Rattle.jpg_spec.specs.declared.fault.Fault.{Fault}
use Rattle.jpg_spec.specs.declared.frame.Colour.{Colour}
use Rattle.jpg_coefs.specs.Picture.{Picture, map_of}
use Rattle.jpg_file.specs.Read.InData.{zero_picture}
use Rattle.jpg_file.specs.Read.PictureKept.{bare_picture, may_have}
use Rattle.jpg_file.specs.declared.read.strip_head.StripHead.{StripHead}
use Rattle.jpg_color.specs.KeptRows.{KeptRows}

-- a picture except for its blocks, and how it is displayed
pub record Display : Type 0 where
  pub frame : Frame
  pub colour : Colour
  pub quants : List QuantTable
  pub gray : Bool
  pub smooth : Bool

-- how many MCU rows were taken and how many rows given, the rows of samples that are kept of each component that is
-- displayed, and the row that was given last
pub record ShownState : Type 0 where
  pub display : Display
  pub pushed : ℕ
  pub given : ℕ
  pub held : List KeptRows
  pub last : List ℕ

abbrev pub picture_of : Display → Blocks → Meaning
picture_of d blocks = bare_picture d.frame d.quants blocks

-- how many components are displayed
abbrev pub parts : Display → ℕ
parts d = needed d.colour d.gray

-- the MCU rows of the picture, and the rows of the image that are made of m of them
abbrev pub all_rows : Display → ℕ
all_rows d = mcu_rows (picture_of d no_blocks)

abbrev pub rows_made_ready : Display → ℕ → ℕ
rows_made_ready d m = ready (picture_of d no_blocks) (parts d) d.smooth (all_rows d) m

-- the rows of blocks of component i in an MCU row
abbrev pub rows_in : Display → ℕ → ℕ
rows_in d i = block_rows (picture_of d no_blocks) i

abbrev pub row_of_blocks : Display → Blocks → ℕ → List ℕ
row_of_blocks d blocks y = shown_row d.colour (picture_of d blocks) d.gray d.smooth y

-- the factors of each component
abbrev pub factors_of : Frame → List (ℕ × ℕ)
factors_of f = map (λ c. (c.h, c.v)) f.components

abbrev pub display_fault : Display → Option Fault
display_fault d = out_fault_of d.frame.precision d.colour d.gray (factors_of d.frame)

-- It can be displayed: one table for each component, colours that they may have, and no fault of the output's kind, so
-- that its samples have 8 bits.
pub record IsShowable (d : Display) : Type 0 where
  pub frame : IsFrame d.frame
  pub tables : length d.quants ≡ length d.frame.components
  pub colour : may_have (length d.frame.components) d.colour ≡ true
  pub admitted : display_fault d ≡ None

-- the rows that are kept of component i
abbrev pub held_rows : ShownState → ℕ → List (List ℕ)
held_rows s i = (slice_index_or s.held i (record { wide = 0; room = 0; rows = [] })).rows

-- THE MEANING OF ITS STATES: any picture whose MCU rows were taken so far
abbrev pub RepresentsPicture : ShownState → Blocks → Type 0
RepresentsPicture s blocks = IsHeld (picture_of s.display blocks) (parts s.display) s.display.smooth (all_rows s.display) s.pushed s.given (held_rows s)

-- From row `first i` on, the blocks of component i are those of MCU row m of a picture.
pub record AreMcuRow (d : Display) (m : ℕ) (first : ℕ → ℕ) (q : Picture) (blocks : Blocks) : Type 0 where
  pub same : (i x y : ℕ) → i < parts d → x < blocks_across d.frame (component_at d.frame i) → y < rows_in d i
      → m * rows_in d i + y < blocks_down d.frame (component_at d.frame i) → map_of q i x (first i + y) ≡ blocks i x (m * rows_in d i + y)

-- blocks of one MCU row of this frame, all within its bounds
pub record IsMcuRow (f : Frame) (q : Picture) : Type 0 where
  pub frame : q.frame ≡ mcu_row_frame f
  pub range : AreInRange (bounds f) (map_of q)

-- one whose blocks are all zero
abbrev pub zero_row : Display → Picture
zero_row d = zero_picture (mcu_row_frame d.frame)

-- all rows that are ready were given, and MCU rows are missing
pub record IsNextRowDue (s : ShownState) : Type 0 where
  pub given : s.given ≡ rows_made_ready s.display s.pushed
  pub missing : s.pushed < all_rows s.display

-- the bytes of a row of the image
abbrev pub row_length : Display → ℕ
row_length d = if shows_gray d.colour d.gray then d.frame.width else 3 * d.frame.width

-- ONE MORE MCU ROW was taken: its blocks are those of component i from row `first i` on.
pub record IsPushed (old : ShownState) (first : ℕ → ℕ) (q : Picture) (new : ShownState) : Type 0 where
  pub display : new.display ≡ old.display
  pub pushed : new.pushed ≡ old.pushed + 1
  pub given : new.given ≡ old.given
  pub stands : (blocks : Blocks) → RepresentsPicture old blocks → AreMcuRow old.display old.pushed first q blocks → RepresentsPicture new blocks

-- only the MCU row, and the next one of a complete picture
abbrev pub at_top : ℕ → ℕ
at_top i = 0

abbrev pub at_due : ShownState → ℕ → ℕ
at_due s i = s.pushed * rows_in s.display i

-- THE NEXT ROW of the image
pub record IsGiven (old : ShownState) (row : List ℕ) (new : ShownState) : Type 0 where
  pub early : old.given < rows_made_ready old.display old.pushed
  pub long : length row ≡ row_length old.display
  pub display : new.display ≡ old.display
  pub pushed : new.pushed ≡ old.pushed
  pub given : new.given ≡ old.given + 1
  pub last : new.last ≡ row
  pub value : (blocks : Blocks) → RepresentsPicture old blocks → row ≡ row_of_blocks old.display blocks old.given
  pub stands : (blocks : Blocks) → RepresentsPicture old blocks → RepresentsPicture new blocks

-- none, exactly if all that are ready were given
abbrev pub GivesRow : ShownState → Option (List ℕ) → ShownState → Type 0
GivesRow old (Some row) new = IsGiven old row new
GivesRow old None new = (old.given ≡ rows_made_ready old.display old.pushed) × (new ≡ old)

-- a row is ready to be lent, or none, exactly if all that are ready were given
abbrev pub Advances : ShownState → Bool → ShownState → Type 0
Advances old true new = IsGiven old new.last new
Advances old false new = (old.given ≡ rows_made_ready old.display old.pushed) × (new ≡ old)

-- how a picture with this head is displayed
abbrev pub display_of : StripHead → Bool → Bool → Display
display_of h gray smooth = record { frame = h.frame; colour = h.colour; quants = h.quants.items; gray = gray; smooth = smooth }

-- Rows before the first MCU row: they are those of any picture.
pub record IsFreshRows (h : StripHead) (gray smooth : Bool) (s : ShownState) : Type 0 where
  pub display : s.display ≡ display_of h gray smooth
  pub pushed : s.pushed ≡ 0
  pub given : s.given ≡ 0
  pub stands : (blocks : Blocks) → RepresentsPicture s blocks
