-- THE LAW: the text of fewer MCU rows begins that of more.
use Rattle.std.proofs.Common.{◌≡◌, ℕ, ◌*◌, ◌<◌, ◌≤◌, Bool, true, false, cond, ◌==◌, ◌&&◌, List, [], ◌∷◌, length, refl, sym, ap, ◌∙◌, subst, arith}
use Rattle.std.specs.Prelude.{nat_lt}
use Rattle.std.proofs.lemmas.List.{get_or-map, length-map}
use Rattle.jpg_spec.specs.Lists.{any_of, below}
use Rattle.jpg_spec.specs.Elements.{zeros}
use Rattle.jpg_spec.specs.Geometry.{Frame, component_at, is_real}
use Rattle.jpg_spec.specs.FrameHeader.{IsFrame}
use Rattle.jpg_spec.specs.Segments.{head_components}
use Rattle.jpg_spec.specs.Scan.{Blocks}
use Rattle.jpg_spec.specs.Meaning.{PictureComponent, real_blocks, component_of}
use Rattle.jpg_spec.specs.Markers.{Segment}
use Rattle.jpg_spec.specs.InForce.{frame_of, head_in}
use Rattle.jpg_spec.specs.Items.{segments_of}
use Rattle.jpg_spec.specs.FileMeaning.{meaning_of, no_blocks, picture_component}
use Rattle.jpg_spec.specs.PictureInWork.{is_at}
use Rattle.jpg_spec_image.specs.Strips.{block_rows, mcu_rows}
use Rattle.jpg_spec.specs.RowsParsed.{blocks_in, row_places, picture_so_far}
use Rattle.jpg_spec_image.specs.RowLaws.{GoesOnFrom, IsShownInRows, TellsTwice, fewer_text, more_text}
use Rattle.jpg_spec.specs.RowLaws.{TellsMore, first_blocks}
use Rattle.jpg_spec.specs.declared.frame.Limits.{Limits}
use Rattle.jpg_spec.specs.declared.frame.Place.{Place}
use Rattle.jpg_spec_image.specs.declared.image.EndKind.{EndKind}
use Rattle.jpg_spec.proofs.Basics.Common.{both, length_below, lt_of}
use Rattle.jpg_spec.proofs.Headers.FrameFound.{framed}
use Rattle.jpg_spec.proofs.Basics.Rows.{at_below}
use Rattle.jpg_spec.proofs.Places.Untouched.{frame_stays}
use Rattle.jpg_spec.proofs.McuRows.RowCounts.{head_names}
use Rattle.jpg_spec.proofs.McuRows.RowsFound.{found_first}
use Rattle.jpg_spec_image.proofs.RowsHeader.{begun_covered, begun_rows}
use Rattle.jpg_spec.proofs.McuRows.RowsHeader.{begun_frame, begun_once, rows_begin, rows_few}
use Rattle.jpg_spec.proofs.McuRows.RowsLater.{head_there}
use Rattle.jpg_spec.proofs.McuRows.RowsOnce.{first_told, rows_once}
use Rattle.jpg_spec_image.proofs.RowsReady.{AgreeInRows, text_goes_on}

-- BLOCKS of the first rows, where they are real
pub real_agree : (f : Frame) (places : List Place) (told : Blocks) (i x z : ℕ) → (i < length f.components → is_real f i x z ≡ true → any_of (is_at i x z) places ≡ true)
    → real_blocks f told i x z ≡ real_blocks f (blocks_in places told) i x z
real_agree f places told i x z found = by (nat_lt i (length f.components) && is_real f i x z) refl
  where
    by : (t : Bool) → (nat_lt i (length f.components) && is_real f i x z) ≡ t → real_blocks f told i x z ≡ real_blocks f (blocks_in places told) i x z
    by false e = ap (λ t. cond t (told i x z) (zeros 64)) e ∙ sym (ap (λ t. cond t (blocks_in places told i x z) (zeros 64)) e)
    by true e =
        let k = both (nat_lt i (length f.components)) (is_real f i x z) e in
        let at = found (lt_of i (length f.components) k.0) k.1 in
        sym (ap (λ t. cond (nat_lt i (length f.components) && is_real f i x z) (cond t (told i x z) (no_blocks i x z)) (zeros 64)) at)

-- a component's rows of blocks in an MCU row depend only on the frame
rows_told : (f : Frame) (segments : List Segment) (blocks : Blocks) (ids : List ℕ) (i : ℕ) → i < length f.components → length ids ≡ length f.components
    → block_rows (meaning_of f segments blocks) i ≡ cond (length ids == 1) 1 (component_at f i).v
rows_told f segments blocks ids i lt all =
    let M = meaning_of f segments blocks in
    let count : length M.components ≡ length ids = length-map (below (length f.components)) (picture_component f segments) ∙ length_below (length f.components) ∙ sym all in
    let none : PictureComponent = record { id = 0; h = 1; v = 1; quants = [] } in
    let low : i < length (below (length f.components)) = (let n = length_below (length f.components) in omega (arith, n, lt)) in
    let at : component_of M i ≡ picture_component f segments i =
    get_or-map (picture_component f segments) (below (length f.components)) i 0 none low ∙ ap (picture_component f segments) (at_below (length f.components) i lt) in
    ap (λ n. cond (n == 1) 1 (component_of M i).v) count ∙ ap (λ (c : PictureComponent). cond (length ids == 1) 1 c.v) at

pub texts_go_on : (limits : Limits) (gray smooth : Bool) (bytes : List ℕ) (kind : EndKind) (w : TellsTwice limits gray bytes) → GoesOnFrom (fewer_text limits gray smooth bytes kind w) (more_text limits gray smooth bytes kind w)
texts_go_on limits gray smooth bytes kind w =
    text_goes_on kind (picture_so_far limits w.before w.contents w.all) (picture_so_far limits w.before w.contents w.some).blocks gray smooth w.fewer w.more shown w.less few agree
  where
    f : Frame
    f = frame_of limits w.before

    after : List Segment
    after = (0xda, w.contents) ∷ w.before

    ids : List ℕ
    ids = head_components (head_in (frame_of limits w.before) w.contents)

    is : IsFrame (frame_of limits w.before)
    is = begun_frame limits bytes w.before w.contents w.limited w.begins

    stays : frame_of limits ((0xda, w.contents) ∷ w.before) ≡ frame_of limits w.before
    stays = frame_stays limits w.before 0xda w.contents (framed w.before (w.begins).header.passed.0) (w.begins).header.passed.0

    shown : IsShownInRows (picture_so_far limits w.before w.contents w.all) gray smooth
    shown = begun_covered limits bytes w.before w.contents w.all gray smooth w.limited w.begins w.shown

    few : w.more ≤ mcu_rows (picture_so_far limits w.before w.contents w.all)
    few =
        rows_few limits bytes w.more (mcu_rows (picture_so_far limits w.before w.contents w.all)) w.all w.before w.contents w.begins
        (begun_rows limits bytes w.before w.contents w.all w.limited w.begins) w.second

    places : List Place
    places = row_places limits w.before w.contents w.fewer

    some : w.some ≡ blocks_in (row_places limits w.before w.contents w.fewer) w.all
    some =
        let m : TellsMore limits bytes w.fewer = record { all = w.more; blocks = w.all; enough = w.less; told = w.second } in
        let j = (w.second).place in
        let same = begun_once limits bytes (segments_of j.items) w.before j.contents w.contents (rows_begin limits bytes w.more w.all w.second) w.begins in
        rows_once limits bytes w.fewer w.some (first_blocks limits bytes w.fewer m) w.first (first_told limits bytes w.fewer m)
        ∙ ap (λ s. blocks_in (row_places limits s j.contents w.fewer) w.all) same.0 ∙ ap (λ c. blocks_in (row_places limits w.before c w.fewer) w.all) same.1

    agree : AgreeInRows (picture_so_far limits w.before w.contents w.all) (picture_so_far limits w.before w.contents w.some).blocks gray w.fewer
    agree i x z has low =
        subst (λ g. real_blocks g w.all i x z ≡ real_blocks g w.some i x z) (sym stays)
        (real_agree f places w.all i x z
        (λ lt real. found_first f ids i x z w.fewer is lt (head_names f (head_in f w.contents) i (head_there limits w.before w.contents (w.begins).unbroken) (w.begins).of_all.all lt) real
        (subst (λ n. z < n * w.fewer) (ap (λ g. block_rows (meaning_of g after w.all) i) stays ∙ rows_told f after w.all ids i lt (w.begins).of_all.all) low))
        ∙ ap (λ (b : Blocks). real_blocks f b i x z) (sym some))
