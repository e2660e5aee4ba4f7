-- THE LAW: a complete file completes all MCU rows of a scan of all components, with the blocks of its picture.
use Rattle.std.proofs.Common.{◌≡◌, ℕ, ◌<◌, true, false, List, ◌∷◌, ◌++◌, length, sym, ap, ◌∙◌, subst}
use Rattle.std.proofs.lemmas.List.{append_assoc}
use Rattle.jpg_spec.specs.Lists.{any_of}
use Rattle.jpg_spec.specs.Geometry.{Frame, is_real, units}
use Rattle.jpg_spec.specs.FrameHeader.{IsFrame}
use Rattle.jpg_spec.specs.Segments.{head_components}
use Rattle.jpg_spec.specs.Scan.{Blocks}
use Rattle.jpg_spec.specs.Meaning.{Meaning, real_blocks}
use Rattle.jpg_spec.specs.Markers.{Segment, has_scan}
use Rattle.jpg_spec.specs.InForce.{frame_of, head_in}
use Rattle.jpg_spec.specs.History.{quant_of}
use Rattle.jpg_spec.specs.Items.{Item, scan, segments_of, SpellsFront}
use Rattle.jpg_spec.specs.FileMeaning.{Leads, Means, meaning_of}
use Rattle.jpg_spec.specs.PictureInWork.{is_at}
use Rattle.jpg_spec_image.specs.Strips.{mcu_rows}
use Rattle.jpg_spec.specs.ScanRows.{first_rows}
use Rattle.jpg_spec.specs.RowsParsed.{CompletesRows, IsScanOfAll, blocks_in, row_places, picture_so_far}
use Rattle.jpg_spec_image.specs.RowLaws.{CompletesAll}
use Rattle.jpg_spec.specs.RowLaws.{IsReadByRows}
use Rattle.jpg_spec.specs.declared.frame.Limits.{Limits}
use Rattle.jpg_spec.specs.declared.frame.Place.{Place}
use Rattle.jpg_spec.proofs.Headers.ColoursKept.{same_frame_after}
use Rattle.jpg_spec.proofs.Headers.FileHeader.{HasFirstScan, file_header}
use Rattle.jpg_spec.proofs.Headers.FirstScan.{first_some_places}
use Rattle.jpg_spec.proofs.Headers.FrameFound.{framed}
use Rattle.jpg_spec.proofs.Headers.OneHeader.{whole_once}
use Rattle.jpg_spec.proofs.Places.PlacesFound.{real_found}
use Rattle.jpg_spec.proofs.Places.Untouched.{frame_stays}
use Rattle.jpg_spec.proofs.McuRows.RowCounts.{head_below, head_names, units_by_row}
use Rattle.jpg_spec_image.proofs.RowCounts.{picture_rows}
use Rattle.jpg_spec.proofs.McuRows.RowsLater.{FrontCut, blocks_stay, frame_there, front_cut, head_there, none_later, quants_stay}
use Rattle.jpg_spec.proofs.McuRows.RowsWhole.{WholeScan, real_in_rows, same_meaning, scan_rows, scan_rows_all}

-- THE FIRST SCAN of the file is that of its header
pub record IsFileScan (limits : Limits) (bytes : List ℕ) (M : Meaning) (w : IsReadByRows limits bytes M) (first : HasFirstScan limits (w.means).items (w.means).front) : Type 0 where
  pub before : segments_of first.before ≡ w.before
  pub contents : first.contents ≡ w.contents
  pub of_all : IsScanOfAll limits (segments_of first.before) first.contents
  pub leads : Leads limits (first.more ++ scan first.contents first.intervals ∷ first.before) (w.means).blocks
  pub none : has_scan (segments_of first.more) ≡ false

pub file_scan : (limits : Limits) (bytes : List ℕ) (M : Meaning) (w : IsReadByRows limits bytes M) (first : HasFirstScan limits (w.means).items (w.means).front) → IsFileScan limits bytes M w first
file_scan limits bytes M w first =
    let m = w.means in
    let cut : bytes ≡ first.head ++ (first.rest ++ (m.marker ++ m.rest)) =
    m.cut ∙ append_assoc m.front m.marker m.rest ∙ ap (λ l. l ++ (m.marker ++ m.rest)) first.cut ∙ append_assoc first.head first.rest (m.marker ++ m.rest) in
    let one = whole_once limits first.head (w.begins).front (first.rest ++ (m.marker ++ m.rest)) (w.begins).rest (segments_of first.before) w.before first.contents w.contents first.header (w.begins).header (sym cut ∙ (w.begins).cut) in
    let of_all : IsScanOfAll limits (segments_of first.before) first.contents =
    subst (λ c. IsScanOfAll limits (segments_of first.before) c) (sym one.2) (subst (λ b. IsScanOfAll limits b w.contents) (sym one.1) (w.begins).of_all) in
    let leads : Leads limits (first.more ++ scan first.contents first.intervals ∷ first.before) m.blocks = subst (λ (z : List Item). Leads limits z m.blocks) first.joined m.leads in
    let spelled : SpellsFront (first.more ++ scan first.contents first.intervals ∷ first.before) m.front = subst (λ (z : List Item). SpellsFront z m.front) first.joined m.spelled in
    record {
      before = one.1;
      contents = one.2;
      of_all = of_all;
      leads = leads;
      none =
          none_later limits first.more first.contents first.intervals first.before m.blocks m.front leads spelled
          (record { head = head_there limits (segments_of first.before) first.contents first.unbroken; all = of_all.all; sequential = of_all.sequential });
    }

pub complete_all : (limits : Limits) (bytes : List ℕ) (M : Meaning) (w : IsReadByRows limits bytes M) → CompletesAll limits bytes M w
complete_all limits bytes M w = record { blocks = blocks; completed = completed; same = same }
  where
    m : Means limits bytes M
    m = w.means

    first : HasFirstScan limits (w.means).items (w.means).front
    first = file_header limits bytes M w.means

    at : IsFileScan limits bytes M w first
    at = file_scan limits bytes M w first

    before : List Segment
    before = segments_of first.before

    leads : Leads limits (scan first.contents first.intervals ∷ first.before) (w.means).blocks
    leads = blocks_stay limits first.more (scan first.contents first.intervals ∷ first.before) (w.means).blocks at.none at.leads

    f : Frame
    f = frame_of limits before

    is : IsFrame f
    is = frame_there limits first.before leads.0 w.limited leads.3 leads.1

    ids : List ℕ
    ids = head_components (head_in f first.contents)

    segments : List Segment
    segments = segments_of (w.means).items

    same_frame : frame_of limits segments ≡ f
    same_frame = ap (λ (z : List Item). frame_of limits (segments_of z)) first.joined ∙ same_frame_after limits first.more first.contents first.intervals first.before (w.means).blocks at.leads

    places : List Place
    places = row_places limits before first.contents (mcu_rows M)

    all : units f ids ≡ places
    all =
        units_by_row f ids
        ∙ ap (first_rows f ids) (sym (ap mcu_rows m.meaning ∙ ap (λ g. mcu_rows (meaning_of g segments m.blocks)) same_frame
        ∙ picture_rows f ids segments m.blocks is (head_below f (head_in f first.contents) (head_there limits before first.contents first.unbroken)) (at.of_all).all))

    blocks : Blocks
    blocks = blocks_in places (w.means).blocks

    front : FrontCut (scan first.contents first.intervals ∷ first.before) (w.means).front
    front = front_cut first.more (scan first.contents first.intervals ∷ first.before) m.front (subst (λ (z : List Item). SpellsFront z m.front) first.joined m.spelled)

    whole : WholeScan limits first.before first.contents first.intervals (w.means).blocks front.front
    whole = record { of_all = at.of_all; spelled = front.spelled; leads = leads }

    completed : CompletesRows limits bytes (mcu_rows M) blocks
    completed =
        let rest = front.rest ++ (m.marker ++ m.rest) in
        let cut : bytes ≡ front.front ++ rest = m.cut ∙ append_assoc m.front m.marker m.rest ∙ ap (λ l. l ++ (m.marker ++ m.rest)) front.cut ∙ append_assoc front.front front.rest (m.marker ++ m.rest) in
        subst (λ l. CompletesRows limits l (mcu_rows M) blocks) (sym cut) (
          scan_rows limits first.before first.contents first.intervals m.blocks front.front rest (mcu_rows M) whole all,
          λ x v. scan_rows_all limits first.before first.contents first.intervals m.blocks front.front rest (mcu_rows M) x whole all (first_some_places limits first.head before first.contents first.header first.unbroken) v,
        )

    found : (i x y : ℕ) → i < length f.components → is_real f i x y ≡ true → any_of (is_at i x y) places ≡ true
    found i x y lt real =
        ap (any_of (is_at i x y)) (sym all)
        ∙ real_found f ids i x y is lt (head_names f (head_in f first.contents) i (head_there limits before first.contents first.unbroken) (at.of_all).all lt) real

    quants : (i : ℕ) → i < length (frame_of limits segments).components → quant_of (frame_of limits segments) ((0xda, first.contents) ∷ before) i ≡ quant_of (frame_of limits segments) segments i
    quants i lt =
        sym (ap (λ (z : List Item). quant_of (frame_of limits segments) (segments_of z) i) first.joined ∙ quants_stay (frame_of limits segments) first.more (scan first.contents first.intervals ∷ first.before) i at.none)

    Same : List Segment → List ℕ → Type 0
    Same b c = picture_so_far limits b c blocks ≡ record M { kept = (picture_so_far limits b c blocks).kept }

    same : Same w.before w.contents
    same =
        let after = (0xda, first.contents) ∷ before in
        let real : real_blocks (frame_of limits segments) blocks ≡ real_blocks (frame_of limits segments) m.blocks =
        subst (λ g. real_blocks g blocks ≡ real_blocks g m.blocks) (sym same_frame) (real_in_rows f places m.blocks found) in
        let R = picture_so_far limits before first.contents blocks in
        let here : Same before first.contents =
        subst (λ (N : Meaning). R ≡ record N { kept = R.kept }) (sym m.meaning)
        (same_meaning (frame_of limits after) (frame_of limits segments) after segments blocks m.blocks (frame_stays limits before 0xda first.contents (framed before leads.1) leads.1 ∙ sym same_frame) quants real) in
        subst (λ c. Same w.before c) at.contents (subst (λ b. Same b first.contents) at.before here)
