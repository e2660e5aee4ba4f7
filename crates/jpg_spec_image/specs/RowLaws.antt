-- TERMS OF THE LAWS on MCU rows that are decoded: what holds together in their premises, and what they conclude. No
-- definition uses them.
use Rattle.std.specs.Prelude.{◌≡◌, ℕ, Bool, true, false, ◌<◌, ◌≤◌, List, ◌++◌, length, None}
use Rattle.jpg_spec.specs.Scan.{Blocks}
use Rattle.jpg_spec.specs.FrameHeader.{AreLimits}
use Rattle.jpg_spec.specs.Meaning.{Meaning, colour_of}
use Rattle.jpg_spec.specs.Markers.{Segment}
use Rattle.jpg_spec.specs.FileMeaning.{scan_after}
use Rattle.jpg_spec_image.specs.ImageText.{end_text}
use Rattle.jpg_spec_image.specs.Pixels.{info, out_fault, pixels}
use Rattle.jpg_spec_image.specs.Strips.{IsCovered, mcu_rows, needed}
use Rattle.jpg_spec.specs.RowsParsed.{BeginsScanOfAll, CompletesRows, TellsBlocks, TellsRows, row_places, picture_so_far}
use Rattle.jpg_spec_image.specs.RowsShown.{rows_text}
use Rattle.jpg_spec_image.specs.declared.image.EndKind.{EndKind}
use Rattle.jpg_spec_image.specs.declared.image.EndKind.TheVariants.{Pnm, Bmp, Targa}
use Rattle.jpg_spec.specs.declared.frame.Limits.{Limits}
use Rattle.jpg_spec.specs.declared.frame.Place.{Place}
use Rattle.jpg_spec.specs.RowLaws.{IsReadByRows, read_so_far, EndsEarlyByRows, early_so_far}

-- The picture of some blocks, after such a scan has begun.
pub record HasBegunPicture (limits : Limits) (bytes : List ℕ) : Type 0 where
  pub limited : AreLimits limits
  pub before : List Segment
  pub contents : List ℕ
  pub begins : BeginsScanOfAll limits bytes before contents
  pub blocks : Blocks

abbrev pub begun_picture : (limits : Limits) → (bytes : List ℕ) → HasBegunPicture limits bytes → Meaning
begun_picture limits bytes w = picture_so_far limits w.before w.contents w.blocks

-- how many MCU rows it has
abbrev pub begun_rows : (limits : Limits) → (bytes : List ℕ) → HasBegunPicture limits bytes → ℕ
begun_rows limits bytes w = mcu_rows (begun_picture limits bytes w)

-- Blocks are decoded at as many places of such a scan as this many MCU rows have, and more.
pub record TellsEnough (limits : Limits) (bytes : List ℕ) (w : HasBegunPicture limits bytes) (places : List Place) (rows : ℕ) : Type 0 where
  pub done : List (List ℕ)
  pub coded : List ℕ
  pub told : Blocks
  pub tells : TellsBlocks (scan_after limits w.before w.contents) done coded places told
  pub enough : length (row_places limits w.before w.contents rows) ≤ length places

-- All MCU rows are complete. The picture of their blocks is M, except for markers that are kept after the scan header.
pub record CompletesAll (limits : Limits) (bytes : List ℕ) (M : Meaning) (w : IsReadByRows limits bytes M) : Type 0 where
  pub blocks : Blocks
  pub completed : CompletesRows limits bytes (mcu_rows M) blocks
  pub same : read_so_far limits bytes M w blocks ≡ record M { kept = (read_so_far limits bytes M w blocks).kept }

-- THE TEXT of MCU rows

-- the frame's numbers for each component that is displayed
abbrev pub IsShownInRows : Meaning → Bool → Bool → Type 0
IsShownInRows M gray smooth = (i : ℕ) → i < needed (colour_of M) gray → IsCovered M smooth (mcu_rows M) i

-- This many MCU rows are decoded, and more of them, of a picture that can be displayed.
pub record TellsTwice (limits : Limits) (gray : Bool) (bytes : List ℕ) : Type 0 where
  pub limited : AreLimits limits
  pub before : List Segment
  pub contents : List ℕ
  pub begins : BeginsScanOfAll limits bytes before contents
  pub fewer : ℕ
  pub more : ℕ
  pub less : fewer ≤ more
  pub some : Blocks
  pub all : Blocks
  pub first : TellsRows limits bytes fewer some
  pub second : TellsRows limits bytes more all
  pub shown : out_fault gray (picture_so_far limits before contents all) ≡ None

abbrev pub fewer_text : (limits : Limits) → (gray smooth : Bool) → (bytes : List ℕ) → EndKind → TellsTwice limits gray bytes → List ℕ
fewer_text limits gray smooth bytes kind w = rows_text kind (picture_so_far limits w.before w.contents w.some) gray smooth w.fewer

abbrev pub more_text : (limits : Limits) → (gray smooth : Bool) → (bytes : List ℕ) → EndKind → TellsTwice limits gray bytes → List ℕ
more_text limits gray smooth bytes kind w = rows_text kind (picture_so_far limits w.before w.contents w.all) gray smooth w.more

-- the bytes go on from these
abbrev pub GoesOnFrom : List ℕ → List ℕ → Type 0
GoesOnFrom front bytes = (rest : List ℕ) × (bytes ≡ front ++ rest)

-- The formats that are written row by row: a header, and then each row when it is ready.
abbrev pub is_by_rows : EndKind → Bool
is_by_rows Pnm = true
is_by_rows Bmp = false
is_by_rows Targa = true

-- of all MCU rows of a complete file
abbrev pub all_rows_text : EndKind → (limits : Limits) → (bytes : List ℕ) → (M : Meaning) → IsReadByRows limits bytes M → (gray smooth : Bool) → Blocks → List ℕ
all_rows_text kind limits bytes M w gray smooth blocks = rows_text kind (read_so_far limits bytes M w blocks) gray smooth (mcu_rows M)

-- the image in any format: that of a picture, and of these blocks with what is in force at the end of its scan header
abbrev pub text_in : EndKind → Meaning → Bool → Bool → List ℕ
text_in kind M gray smooth = end_text kind (info M gray) (pixels M gray smooth)

abbrev pub so_far_in : EndKind → (limits : Limits) → (bytes : List ℕ) → (M : Meaning) → IsReadByRows limits bytes M → (gray smooth : Bool) → Blocks → List ℕ
so_far_in kind limits bytes M w gray smooth blocks = text_in kind (read_so_far limits bytes M w blocks) gray smooth

-- the text of all its MCU rows
abbrev pub early_text : EndKind → (limits : Limits) → (bytes : List ℕ) → (M : Meaning) → EndsEarlyByRows limits bytes M → (gray smooth : Bool) → List ℕ
early_text kind limits bytes M w gray smooth = rows_text kind (early_so_far limits bytes M w) gray smooth (mcu_rows M)
