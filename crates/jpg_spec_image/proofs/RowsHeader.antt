-- The MCU rows that are decoded belong to the scan that the file's header begins, which has as many as its picture.
use Rattle.std.proofs.Common.{◌≡◌, ℕ, Bool, List, ◌∷◌, sym, ap, ◌∙◌, subst, None}
use Rattle.jpg_spec.specs.FrameHeader.{AreLimits, IsFrame}
use Rattle.jpg_spec.specs.Segments.{head_components}
use Rattle.jpg_spec.specs.Scan.{Blocks}
use Rattle.jpg_spec.specs.Markers.{Segment}
use Rattle.jpg_spec.specs.InForce.{frame_of, head_in}
use Rattle.jpg_spec.specs.FileMeaning.{meaning_of, scan_after}
use Rattle.jpg_spec_image.specs.Pixels.{out_fault}
use Rattle.jpg_spec_image.specs.Strips.{mcu_rows}
use Rattle.jpg_spec.specs.ScanRows.{first_rows}
use Rattle.jpg_spec.specs.RowsParsed.{BeginsScanOfAll, row_places, picture_so_far}
use Rattle.jpg_spec_image.specs.RowsShown.{ShowsRows, rows_text}
use Rattle.jpg_spec_image.specs.RowLaws.{IsShownInRows}
use Rattle.jpg_spec_image.specs.declared.image.EndKind.{EndKind}
use Rattle.jpg_spec.specs.declared.frame.Limits.{Limits}
use Rattle.jpg_spec.proofs.Headers.FrameFound.{framed}
use Rattle.jpg_spec.proofs.Places.Untouched.{frame_stays}
use Rattle.jpg_spec.proofs.McuRows.RowCounts.{head_below, units_by_row}
use Rattle.jpg_spec_image.proofs.RowCounts.{picture_rows}
use Rattle.jpg_spec_image.proofs.RowsCovered.{shown_covered}
use Rattle.jpg_spec.proofs.McuRows.RowsLater.{head_there}
use Rattle.jpg_spec.proofs.McuRows.RowsOnce.{completed_once}
use Rattle.jpg_spec.proofs.McuRows.RowsHeader.{begun_frame, begun_once}

-- ITS PICTURE has as many MCU rows

pub begun_rows : (limits : Limits) (bytes : List ℕ) (before : List Segment) (contents : List ℕ) (blocks : Blocks) → AreLimits limits → BeginsScanOfAll limits bytes before contents
    → (scan_after limits before contents).places ≡ row_places limits before contents (mcu_rows (picture_so_far limits before contents blocks))
begun_rows limits bytes before contents blocks limited w =
    let f = frame_of limits before in
    let head = head_in f contents in
    let after = (0xda, contents) ∷ before in
    let is = begun_frame limits bytes before contents limited w in
    let stays : frame_of limits after ≡ f = frame_stays limits before 0xda contents (framed before (w.header).passed.0) (w.header).passed.0 in
    units_by_row f (head_components head)
    ∙ ap (first_rows f (head_components head))
    (sym (ap (λ g. mcu_rows (meaning_of g after blocks)) stays ∙ picture_rows f (head_components head) after blocks is (head_below f head (head_there limits before contents w.unbroken)) (w.of_all).all))

-- and if it can be displayed, its components cover the image's rows
pub begun_covered : (limits : Limits) (bytes : List ℕ) (before : List Segment) (contents : List ℕ) (blocks : Blocks) (gray smooth : Bool) → AreLimits limits → BeginsScanOfAll limits bytes before contents
    → out_fault gray (picture_so_far limits before contents blocks) ≡ None → IsShownInRows (picture_so_far limits before contents blocks) gray smooth
begun_covered limits bytes before contents blocks gray smooth limited w none =
    let after = (0xda, contents) ∷ before in
    let stays : frame_of limits after ≡ frame_of limits before = frame_stays limits before 0xda contents (framed before (w.header).passed.0) (w.header).passed.0 in
    shown_covered (frame_of limits after) after blocks gray smooth (subst (λ g. IsFrame g) (sym stays) (begun_frame limits bytes before contents limited w)) none

-- BYTES HAVE ONE TEXT
pub shown_once : (limits : Limits) (kind : EndKind) (gray smooth : Bool) (bytes a b : List ℕ) → ShowsRows limits kind gray smooth bytes a → ShowsRows limits kind gray smooth bytes b → a ≡ b
shown_once limits kind gray smooth bytes a b v w =
    let head = begun_once limits bytes v.before w.before v.contents w.contents v.begins w.begins in
    let rows = completed_once limits bytes v.rows w.rows v.blocks w.blocks v.completed w.completed in
    v.same
    ∙ ap (λ s. rows_text kind (picture_so_far limits s v.contents v.blocks) gray smooth v.rows) head.0
    ∙ ap (λ c. rows_text kind (picture_so_far limits w.before c v.blocks) gray smooth v.rows) head.1
    ∙ ap (λ b. rows_text kind (picture_so_far limits w.before w.contents b) gray smooth v.rows) rows.1
    ∙ ap (λ n. rows_text kind (picture_so_far limits w.before w.contents w.blocks) gray smooth n) rows.0
    ∙ sym w.same
