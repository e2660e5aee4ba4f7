-- If a file ends early in a scan of all components, its first MCU rows are those that were decoded, and their text is
-- the same.
use Rattle.std.proofs.Common.{◌≡◌, ℕ, ◌*◌, ◌<◌, Bool, true, false, cond, List, [], ◌∷◌, length, refl, sym, ap, ◌∙◌, subst, arith}
use Rattle.std.specs.Prelude.{◌&&◌, nat_lt}
use Rattle.jpg_spec.specs.Elements.{zeros}
use Rattle.jpg_spec.specs.FileMeaning.{meaning_of}
use Rattle.jpg_spec.specs.Geometry.{Frame, blocks_across, blocks_down, component_at, is_real}
use Rattle.jpg_spec.specs.InForce.{frame_of, head_in}
use Rattle.jpg_spec.specs.Markers.{Segment}
use Rattle.jpg_spec.specs.Meaning.{real_blocks}
use Rattle.jpg_spec_image.specs.RowsShown.{rows_text}
use Rattle.jpg_spec.specs.RowsParsed.{BeginsScanOfAll, TellsRows}
use Rattle.jpg_spec.specs.Scan.{Blocks}
use Rattle.jpg_spec.specs.Segments.{head_components, standard_limits}
use Rattle.jpg_spec_image.specs.Strips.{block_rows, mcu_rows}
use Rattle.jpg_spec_image.specs.declared.image.EndKind.{EndKind}
use Rattle.jpg_spec.proofs.Basics.Common.{both, lt_of}
use Rattle.jpg_spec.proofs.McuRows.RowCounts.{head_below, rows_down}
use Rattle.jpg_spec_image.proofs.RowCounts.{picture_rows}
use Rattle.jpg_spec.proofs.McuRows.RowsHeader.{begun_frame}
use Rattle.jpg_spec.proofs.McuRows.RowsLater.{head_there}
use Rattle.jpg_spec.proofs.Writing.WrittenFront.{standard_are_limits}
use Rattle.jpg_base.specs.Cursor.{scan_mcus_down}
use Rattle.jpg_seq.specs.Reader.{rows_in_mcu}
use Rattle.jpg_file.specs.Read.ReadFile.{AgreeInRows}
use Rattle.jpg_file.specs.Read.Strips.{rows_of_scan}
use Rattle.jpg_color.specs.StripImage.{AgreeInFirstRows}
use Rattle.jpg_cli.specs.Tools.ShowingRows.{Head, IsHeadIn}
use Rattle.jpg_cli.proofs.ByRow.RowsAgree.{frame_so_far, rows_told, text_same}
use Rattle.jpg_cli.proofs.ByRow.RowsWhole.{so_far}

-- THE NUMBER OF MCU ROWS of the picture
same_down : (f : Frame) (ids : List ℕ) → rows_down f ids ≡ scan_mcus_down f ids
same_down f [] = refl
same_down f (i ∷ []) = refl
same_down f (i ∷ j ∷ more) = refl

pub rows_of_picture : (h : Head) (all : List ℕ) (blocks : Blocks) → BeginsScanOfAll standard_limits all h.before h.contents → mcu_rows (so_far h blocks) ≡ rows_of_scan standard_limits h.before h.contents
rows_of_picture h all blocks begins =
    let f = frame_of standard_limits h.before in
    let head = head_in f h.contents in
    let after = (0xda, h.contents) ∷ h.before in
    let is = begun_frame standard_limits all h.before h.contents standard_are_limits begins in
    ap (λ (g : Frame). mcu_rows (meaning_of g after blocks)) (frame_so_far h all begins)
    ∙ picture_rows f (head_components head) after blocks is (head_below f head (head_there standard_limits h.before h.contents begins.unbroken)) (begins.of_all).all
    ∙ same_down f (head_components head)

-- THE FIRST MCU ROWS of two pictures with the same real blocks
turned : (a b : ℕ) → a * b ≡ b * a
turned a b = grind arith

early_agree : (h : Head) {all : List ℕ} {m : ℕ} {some blocks : Blocks} → BeginsScanOfAll standard_limits all h.before h.contents → AgreeInRows (frame_of standard_limits h.before) m some blocks → (i x z : ℕ) → z < block_rows (so_far h blocks) i * m
    → (so_far h blocks).blocks i x z ≡ (so_far h some).blocks i x z
early_agree h {all} {m} {some} {blocks} begins agree i x z low = subst (λ g. real_blocks g blocks i x z ≡ real_blocks g some i x z) (sym stays) (by (nat_lt i (length f.components) && is_real f i x z) refl)
  where
    f : Frame
    f = frame_of standard_limits h.before

    after : List Segment
    after = (0xda, h.contents) ∷ h.before

    stays : frame_of standard_limits ((0xda, h.contents) ∷ h.before) ≡ frame_of standard_limits h.before
    stays = frame_so_far h all begins

    there : i < length (frame_of standard_limits h.before).components → z < m * rows_in_mcu (frame_of standard_limits h.before) i
    there lt =
        let rows : block_rows (so_far h blocks) i ≡ rows_in_mcu f i = ap (λ g. block_rows (meaning_of g after blocks) i) stays ∙ rows_told f after blocks i lt in
        subst (λ n. z < n) (ap (λ c. c * m) rows ∙ turned (rows_in_mcu f i) m) low

    by : (t : Bool) → (nat_lt i (length f.components) && is_real f i x z) ≡ t → real_blocks f blocks i x z ≡ real_blocks f some i x z
    by false e = ap (λ t. cond t (blocks i x z) (zeros 64)) e ∙ sym (ap (λ t. cond t (some i x z) (zeros 64)) e)
    by true e =
        let k = both (nat_lt i (length f.components)) (is_real f i x z) e in
        let lt = lt_of i (length f.components) k.0 in
        let real = both (nat_lt x (blocks_across f (component_at f i))) (nat_lt z (blocks_down f (component_at f i))) k.1 in
        let same = agree.same i x z lt (lt_of x (blocks_across f (component_at f i)) real.0) (lt_of z (blocks_down f (component_at f i)) real.1) (there lt) in
        ap (λ t. cond t (blocks i x z) (zeros 64)) e ∙ sym same ∙ sym (ap (λ t. cond t (some i x z) (zeros 64)) e)

pub early_first : (h : Head) {all : List ℕ} {m : ℕ} {some blocks : Blocks} → BeginsScanOfAll standard_limits all h.before h.contents → AgreeInRows (frame_of standard_limits h.before) m some blocks → AgreeInFirstRows (so_far h some) (so_far h blocks) m
early_first h {m} {blocks} begins agree = record {
  same = refl;
  blocks = λ i x y has wide high low. sym (early_agree h begins agree i x y (subst (λ n. y < n) (turned m (block_rows (so_far h blocks) i)) low));
}

-- THEIR TEXT is the same
pub early_text : {gray : Bool} (smooth : Bool) (kind : EndKind) {h : Head} {all : List ℕ} {m : ℕ} {some blocks : Blocks} → IsHeadIn gray h all → TellsRows standard_limits all m some → AgreeInRows (frame_of standard_limits h.before) m some blocks
    → rows_text kind (so_far h some) gray smooth m ≡ rows_text kind (so_far h blocks) gray smooth m
early_text smooth kind {h} {blocks} head told agree = text_same smooth kind blocks head told (early_agree h head.begins agree)
