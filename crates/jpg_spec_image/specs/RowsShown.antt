-- WHAT IS WRITTEN OF A FILE while it is read (the manual of djpeg): the image's header, and the rows that are ready
-- after the MCU rows decoded so far.
use Rattle.std.specs.Prelude.{◌≡◌, ℕ, Bool, List, ◌++◌, flat_map, take}
use Rattle.jpg_spec.specs.Scan.{Blocks}
use Rattle.jpg_spec.specs.Meaning.{Meaning, colour_of}
use Rattle.jpg_spec.specs.Markers.{Segment}
use Rattle.jpg_spec_image.specs.Pixels.{info, pixels}
use Rattle.jpg_spec_image.specs.Strips.{mcu_rows, needed, ready}
use Rattle.jpg_spec_image.specs.ImageText.{first_piece, row_piece}
use Rattle.jpg_spec.specs.RowsParsed.{BeginsScanOfAll, CompletesRows, picture_so_far}
use Rattle.jpg_spec.specs.declared.frame.Limits.{Limits}
use Rattle.jpg_spec_image.specs.declared.image.EndKind.{EndKind}

-- the rows of the image that are ready after this many MCU rows
abbrev pub ready_rows : Meaning → Bool → Bool → ℕ → ℕ
ready_rows M gray smooth rows = ready M (needed (colour_of M) gray) smooth (mcu_rows M) rows

-- What is written of the image then: its header and these rows. BMP has its header and its rows at the end, so nothing
-- of it is written.
abbrev pub rows_text : EndKind → Meaning → Bool → Bool → ℕ → List ℕ
rows_text kind M gray smooth rows =
    first_piece kind (info M gray) ++ flat_map (row_piece kind (info M gray)) (take (ready_rows M gray smooth rows) (pixels M gray smooth))

-- The text of a file's first bytes: they begin a scan of all components, and complete this many MCU rows.
pub record ShowsRows (limits : Limits) (kind : EndKind) (gray smooth : Bool) (bytes text : List ℕ) : Type 0 where
  pub before : List Segment
  pub contents : List ℕ
  pub begins : BeginsScanOfAll limits bytes before contents
  pub rows : ℕ
  pub blocks : Blocks
  pub completed : CompletesRows limits bytes rows blocks
  pub same : text ≡ rows_text kind (picture_so_far limits before contents blocks) gray smooth rows
