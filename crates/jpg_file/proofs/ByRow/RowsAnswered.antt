-- The end of a file that is read MCU row by MCU row.
use Rattle.std.proofs.Common.{◌≡◌, ℕ, zero, suc, ◌+◌, ◌*◌, ◌<◌, ◌≤◌, ◌==◌, ◌&&◌, Bool, true, false, cond, List, [], ◌∷◌, ◌++◌, length, refl, sym, ap, ◌∙◌, subst, arith, inl, inr, ◌⊎◌, None, Some, Option, nat_lt, replicate, is_none, length-append, Ok, Err, ◌-◌, take, drop, Result, take_all}
use Rattle.std.proofs.lemmas.Nat.{mul-le}
use Rattle.jpg_spec.specs.Lists.{all_of, below}
use Rattle.jpg_spec.specs.Ranges.{AreInRange}
use Rattle.jpg_spec.specs.Geometry.{Frame, bounds, blocks_across, blocks_down, component_at, is_real, mcu_row_frame, no_component}
use Rattle.jpg_spec.specs.FrameHeader.{AreLimits, IsFrame}
use Rattle.jpg_spec.specs.Elements.{zeros}
use Rattle.jpg_spec.specs.Scan.{Blocks}
use Rattle.jpg_spec.specs.Segments.{head_components, ScanHead}
use Rattle.jpg_spec.specs.Meaning.{real_blocks}
use Rattle.jpg_spec.specs.Markers.{Segment, has_frame, has_scan}
use Rattle.jpg_spec.specs.InForce.{frame_of, head_in, heads_of, no_frame}
use Rattle.jpg_spec.specs.History.{has_begun}
use Rattle.jpg_spec.specs.Items.{Item, SpellsFront, segments_of}
use Rattle.jpg_spec.specs.FileMeaning.{Leads, meaning_of, scan_after}
use Rattle.jpg_spec.specs.UnfinishedFile.{UnfinishedFile}
use Rattle.jpg_spec.specs.Early.{MeansEarly}
use Rattle.jpg_spec.specs.Laws.{frame_of_items}
use Rattle.jpg_spec.specs.ScanRows.{first_rows}
use Rattle.jpg_spec.specs.RowsParsed.{BeginsScanOfAll, TellsRows, blocks_in, row_places, CompletesRows}
use Rattle.jpg_spec.specs.declared.frame.Limits.{Limits}
use Rattle.jpg_spec.proofs.Basics.Common.{both, clash, lt_of, not_zero}
use Rattle.jpg_spec.proofs.Headers.BeforeScans.{no_heads}
use Rattle.jpg_spec.proofs.Files.FileLaws.{stands_early, stands_truncated}
use Rattle.jpg_spec.proofs.Headers.FrameAfter.{leads_pass}
use Rattle.jpg_spec.proofs.McuRows.RowsHeader.{begun_frame, begun_once, all_complete, begun_places}
use Rattle.jpg_spec.proofs.McuRows.RowsOfItems.{HoldsRows, rows_of_items}
use Rattle.jpg_spec.proofs.McuRows.RowsOnce.{rows_once, rows_stay}
use Rattle.jpg_base.specs.Cursor.{scan_mcus_down}
use Rattle.jpg_coefs.specs.Picture.{Picture, map_of}
use Rattle.jpg_seq.specs.Reader.{IsRowOf, rows_in_mcu, top_of}
use Rattle.jpg_seq.proofs.Machines.{units_by_row}
use Rattle.jpg_file.specs.Read.SegmentState.{HasBegun, HasBegunAll, IsComplete, HasBegunEach, RepresentsHeads, kept_for}
use Rattle.jpg_file.specs.Read.File.{RepresentsFile, IsBetweenFileItems, keeping_of, with_picture, EndStands, EndsFile}
use Rattle.jpg_file.specs.Read.Items.{AtPlace}
use Rattle.jpg_file.specs.Read.ReadFile.{ReaderState, GivenBefore, HasLastByte, RowsGive, RowsGo, RowsOpen, GoesOn, KnowsAfter, LastOfRow, TakesPiece, AsksForMemory, AgreeInRows, AreOfRow, HasBegunRows, HasReadRows, IsEarlyByRows, LendsRow, HasGivenRow, HasReadAll, IsEarlyPlainly, IsReading, HasAllBlocks, HasReadSoFar, IsDoneByRows, StopsKnownRows as StopsRows, after_piece, with_work, work_of, AfterFeedKeeping, AfterFeedRow, AsksOnFeedKeeping, AsksOnFeedRow, FeedsKeeping, FeedsRow, HasReadPlainly, IsDonePlainly, NotSooner, ReadsInto, ReadsOne, StopsSoFar, HasRead, TellsBegun}
use Rattle.jpg_file.specs.Read.InData.{IsRowAt, scan_left, IsBlankAfter, unfinished}
use Rattle.jpg_file.specs.Read.Strips.{rows_of_scan, GoesByRow, RowsAfter, RowsInside, components_of, frame_behind, RepresentsRows, RepresentsStrip, BeganAtFault, NoRowsIn, KnowsRows, RowsKnown, RowsSoFar, EndsByRow, RowsFault, LacksRow, AfterStrip, FileSeen}
use Rattle.jpg_file.specs.declared.read.scan_history.ScanHistory.{ScanHistory}
use Rattle.jpg_file.specs.declared.read.file.FileState.{FileState}
use Rattle.jpg_file.specs.declared.read.rows.RowWork.{RowWork}
use Rattle.jpg_file.proofs.Headers.InForce.{markers_kept, all_once, no_head}
use Rattle.jpg_file.proofs.Files.Leaving.{at_end, named_by, some_at, some_for, early_leaves, each_complete, ends_early, named_each, file_leaves, tells_begun}
use Rattle.jpg_file.proofs.ByRow.RowTurns.{rows_there}
use Rattle.jpg_file.proofs.ByRow.RowsGiven.{head_of_early, agree_rows, named_in, rows_cover, TellsDue, inside_tells, place_tells, row_blocks, inside_in_range, same_scan, head_of_whole, goes_completes, row_fed, begun_on}
use Rattle.jpg_file.proofs.ByRow.StripBytes.{goes_with, open_head, strip_read}
use Rattle.jpg_file.proofs.ByRow.StripRows.{rest_blank, rest_framed}
use Rattle.jpg_scans.specs.declared.progress.Progress.{Progress}
use Rattle.jpg_spec.proofs.Bits.FirstPasses.{all_join}
use Rattle.jpg_file.proofs.Files.ReaderFed.{plain_stands, plain_open, fed_done, fed_more}
use Rattle.jpg_spec.specs.declared.fault.FaultAt.{FaultAt}
use Rattle.jpg_spec.specs.declared.frame.Place.{Place}
use Rattle.jpg_file.proofs.Files.FileSteps.{head_left, one_begun, counted, file_means, stands_file, front_is}
use Rattle.jpg_file.proofs.ByRow.StripBegin.{none_in, no_rows}
use Rattle.std.proofs.Math.Seq.{take-append-add}
use Rattle.jpg_base.specs.declared.stop.Stop.{Stop}
use Rattle.jpg_file.specs.declared.read.pieces.FedRow.{FedRow}
use Rattle.jpg_file.specs.declared.read.step.Step.{Step}
use Rattle.jpg_file.proofs.ByRow.StripWorks.{no_rows_in, none_first}
use Rattle.jpg_spec.specs.FirstFault.{IsFirstFault}
use Rattle.jpg_spec.specs.declared.fault.Fault.TheVariants.{Truncated}
use Rattle.jpg_file.specs.declared.read.pieces.FedRow.TheVariants as fed
use Rattle.jpg_base.specs.declared.stop.Stop.TheVariants as stop
use Rattle.jpg_file.specs.declared.read.step.Step.TheVariants as step

-- If the bytes end early that a reader of MCU rows was fed: their picture, the rows that were passed, the current one,
-- and zeros after it.

-- THE PICTURE that is left, of these blocks
record EndsWhole (limits : Limits) (bytes : List ℕ) (w : FileState) (whole : Picture) : Type 0 where
  pub segments : List Segment
  pub early : MeansEarly limits bytes (meaning_of (frame_of limits segments) segments (map_of whole))
  pub framed : whole.frame ≡ frame_of limits segments
  pub range : AreInRange (bounds (frame_of limits segments)) (map_of whole)
  pub kept : w.items.held.kept ≡ (kept_for (keeping_of w) (meaning_of (frame_of limits segments) segments (map_of whole))).kept

ends_whole : (limits : Limits) (bytes : List ℕ) (w : FileState) (whole : Picture) (all : Bool) → RepresentsFile limits bytes (with_picture w whole) → UnfinishedFile limits bytes → length bytes < limits.input → IsComplete w.begun.progress all → all ≡ true → EndsWhole limits bytes w whole
ends_whole limits bytes w whole all s stands short told e =
    let v = with_picture w whole in
    let a = at_end limits bytes v s in
    let named = named_by limits v.begun a.segments all a.begun told (some_at limits bytes v a) e in
    let here = a.here (some_at limits bytes v a named.found) named in
    let is : whole ≡ here.coefs = all_once whole here.coefs here.has in
    let same : a.blocks ≡ map_of whole = here.as_map ∙ ap map_of (sym is) in
    record {
      segments = a.segments;
      early = subst (λ (bs : Blocks). MeansEarly limits bytes (meaning_of (frame_of limits a.segments) a.segments bs)) same (stands_early limits bytes stands short here.have, here.ends);
      framed = ap (λ (q : Picture). q.frame) is ∙ here.framed;
      range = subst (λ (bs : Blocks). AreInRange (bounds (frame_of limits a.segments)) bs) same here.range;
      kept = markers_kept limits a.segments (map_of whole) w a.holds;
    }

-- LATER BLOCKS are zero
later_zero : (f : Frame) (all : Blocks) (i x y : ℕ) → (i < length f.components → y < blocks_down f (component_at f i) → all i x y ≡ zeros 64) → real_blocks f all i x y ≡ zeros 64
later_zero f all i x y none = by (nat_lt i (length f.components) && is_real f i x y) refl
  where
    by : (b : Bool) → (nat_lt i (length f.components) && is_real f i x y) ≡ b → real_blocks f all i x y ≡ zeros 64
    by false e = ap (λ b. cond b (all i x y) (zeros 64)) e
    by true e =
        let k = both (nat_lt i (length f.components)) (is_real f i x y) e in
        let r = both (nat_lt x (blocks_across f (component_at f i))) (nat_lt y (blocks_down f (component_at f i))) k.1 in
        ap (λ b. cond b (all i x y) (zeros 64)) e ∙ none (lt_of i (length f.components) k.0) (lt_of y (blocks_down f (component_at f i)) r.1)

-- WHAT IS LEFT, in the frame of the scan
record RowsLeft (limits : Limits) (bytes : List ℕ) (before : List Segment) (contents : List ℕ) (m : ℕ) (rows : RowWork) (whole : Picture) : Type 0 where
  pub framed : whole.frame ≡ frame_of limits before
  pub told : TellsRows limits bytes m (blocks_in (row_places limits before contents m) (map_of whole))
  pub work : 1 ≤ unfinished rows → LendsRow (frame_of limits before) m rows.coefs (real_blocks (frame_of limits before) (map_of whole))
  pub later : (i x y : ℕ) → (m + 1) * rows_in_mcu (frame_of limits before) i ≤ y → real_blocks (frame_of limits before) (map_of whole) i x y ≡ zeros 64

-- INSIDE THE SCAN

-- how much of the current row is done
record RowNumber (row m left later : ℕ) : Type 0 where
  pub least : row ≤ m
  pub same : 1 ≤ later + cond (left == 0) 0 1 → row ≡ m

row_number : (row m left later units all : ℕ) → m + (later + cond (left == 0) 0 1) ≡ all → row + 1 + later ≡ all → 1 ≤ units → (1 ≤ left + later * units → 1 ≤ left) → RowNumber row m left later
row_number row m zero later units all e count some turned = record {
  least = omega (arith, e, count);
  same = λ due.
      (let low : later * 1 ≤ later * units = mul-le later 1 later units (omega arith) some in
      let none : 1 ≤ 0 = turned (omega (arith, low, due)) in absurd (omega (arith, none)));
}
row_number row m (suc n) later units all e count some turned =
    let one : later + cond (suc n == 0) 0 1 ≡ later + 1 = ap (λ b. later + cond b 0 1) (not_zero n) in
    record { least = omega (arith, e, count, one); same = λ due. omega (arith, e, count, one) }

inside_left : (limits : Limits) (bytes : List ℕ) (w : FileState) (rows : RowWork) (whole : Picture) (m : ℕ) → (r : RowsInside limits bytes w rows whole) → IsRowOf rows.tops whole rows.coefs → (1 ≤ scan_left r.scan → 1 ≤ rows.left)
    → BeginsScanOfAll limits bytes (segments_of r.items) r.contents → m + unfinished rows ≡ rows_of_scan limits (segments_of r.items) r.contents → RowsLeft limits bytes (segments_of r.items) r.contents m rows whole
inside_left limits bytes w rows whole m r of turned begins count = record {
  framed = framed;
  told = subst (λ n. TellsRows limits bytes n (blocks_in (row_places limits (segments_of r.items) r.contents n) (map_of whole))) is t.told;
  work = λ due. record { framed = of.framed ∙ ap mcu_row_frame framed; range = inside_in_range limits bytes w rows whole r of; row = lent due };
  later = λ i x y low. later_zero f (map_of whole) i x y (λ there down. blank i x y (subst (λ (g : Frame). i < length g.components) (sym framed) there) (deep i y there low));
}
  where
    f : Frame
    f = frame_of limits (segments_of r.items)

    at : IsRowAt (frame_behind limits r.items) (components_of limits r.items r.contents) rows (scan_left r.scan)
    at = (r.at).at

    framed : whole.frame ≡ frame_of limits (segments_of r.items)
    framed = rest_framed limits r.items r.contents bytes rows.waiting r.scan whole r.coded r.of

    t : TellsDue limits bytes r.items r.contents rows whole
    t = place_tells limits r.items r.contents bytes whole rows (scan_left r.scan) (inside_tells limits bytes w rows whole r) (r.at).at

    is : t.m ≡ m
    is = omega (arith, t.count, count)

    number : RowNumber at.row m rows.left rows.later
    number = row_number at.row m rows.left rows.later rows.units (rows_of_scan limits (segments_of r.items) r.contents) count at.count (r.at).some (λ due. turned (subst (λ n. 1 ≤ n) (sym at.sum) due))

    lent : 1 ≤ unfinished rows → AreOfRow (frame_of limits (segments_of r.items)) m rows.coefs (real_blocks (frame_of limits (segments_of r.items)) (map_of whole))
    lent due =
        let row = row_blocks limits r.items r.contents whole rows (scan_left r.scan) m of framed at (number.same due) (named_in limits bytes (segments_of r.items) r.contents begins) in
        let agree = agree_rows limits bytes (segments_of r.items) r.contents begins (m + 1) (map_of whole) at.frame in
        record {
          same = λ i x y there across low down.
              (let v = rows_in_mcu f i in
              let e : (m + 1) * v ≡ m * v + v = grind arith in
              row.same i x y there across low down ∙ agree.same i x (m * v + y) there across down (omega (arith, low, e)));
        }

    blank : IsBlankAfter rows whole
    blank = rest_blank limits r.items r.contents bytes rows.waiting r.scan rows whole r.coded r.of r.at

    deep : (i y : ℕ) → i < length (frame_of limits (segments_of r.items)).components → (m + 1) * rows_in_mcu (frame_of limits (segments_of r.items)) i ≤ y → top_of rows.tops i + top_of rows.steps i ≤ y
    deep i y there low =
        let v = rows_in_mcu f i in
        let step : top_of rows.steps i ≡ v = (r.at).steps i ∙ rows_there f i there in
        let top : top_of rows.tops i ≡ at.row * v = at.begins i there in
        let most : (at.row + 1) * v ≤ (m + 1) * v = mul-le (at.row + 1) v (m + 1) v (let z = number.least in omega (arith, z)) (omega arith) in
        let e : (at.row + 1) * v ≡ at.row * v + v = grind arith in
        omega (arith, step, top, most, e, low)

-- AFTER IT, all MCU rows are there

-- items, and bytes after them
record ItemsAt (limits : Limits) (bytes : List ℕ) (items : List Item) (blocks : Blocks) : Type 0 where
  pub front : List ℕ
  pub tail : List ℕ
  pub cut : bytes ≡ front ++ tail
  pub spelled : SpellsFront items front
  pub leads : Leads limits items blocks

items_at : (limits : Limits) (bytes : List ℕ) (v : FileState) → (s : IsBetweenFileItems limits bytes v) → has_frame (segments_of s.items) ≡ true → ItemsAt limits bytes s.items s.blocks
items_at limits bytes v s found = by (s.at).at
  where
    by : AtPlace limits bytes (s.at).sent s.items s.blocks → ItemsAt limits bytes s.items s.blocks
    by (inl k) = absurd (clash (has_frame (segments_of s.items)) found (ap (λ z. has_frame (segments_of z)) k.no_items))
    by (inr (tail, k)) =
        let b = (k.beside).behind in record { front = b.front; tail = replicate (k.beside).fill 255 ++ tail; cut = b.cut; spelled = b.spelled; leads = k.leads }

-- a scan is among them
scan_among : (limits : Limits) (items : List Item) (blocks : Blocks) (b : ScanHistory) → HasBegun limits b (segments_of items) → HasBegunAll b.progress → has_frame (segments_of items) ≡ true → Leads limits items blocks → has_scan (segments_of items) ≡ true
scan_among limits items blocks b begun all found leads = by (has_scan (segments_of items)) refl
  where
    f : Frame
    f = frame_of limits (segments_of items)

    by : (t : Bool) → has_scan (segments_of items) ≡ t → t ≡ true
    by true e = refl
    by false e =
        let some : 1 ≤ length f.components = some_for limits (segments_of items) (leads_pass limits items blocks leads) found in
        let heads = heads_of f (segments_of items) in
        let one : has_begun heads 0 ≡ true = (all f heads begun.scans).1 0 (omega (arith, some)) in
        absurd (clash (has_begun heads 0) one (ap (λ hs. has_begun hs 0) (no_heads f (segments_of items) e)))

module _ (limits : Limits) (bytes : List ℕ) (w : FileState) (rows : RowWork) (m : ℕ) (before : List Segment) (contents : List ℕ) where
  after_left : (whole : Picture) (r : RowsAfter limits bytes w rows whole) → IsFrame (frame_of limits before) → BeginsScanOfAll limits bytes before contents
      → m + unfinished rows ≡ rows_of_scan limits before contents → RowsLeft limits bytes before contents m rows whole
  after_left whole r is begins count = record {
    framed = picture.1 ∙ rows_held.framed;
    told = subst (λ (b : Blocks). TellsRows limits bytes m (blocks_in (row_places limits before contents m) b)) picture.2 rows_held.told;
    work = λ due. absurd (let z = r.done in omega (arith, due, z));
    later = λ i x y low. later_zero f (map_of whole) i x y (λ there down. absurd (too_deep i y there down low));
  }
    where
      f : Frame
      f = frame_of limits before

      ids : List ℕ
      ids = head_components (head_in f contents)

      s : IsBetweenFileItems limits bytes (with_picture w whole)
      s = r.between

      picture : (has_frame (segments_of (r.between).items) ≡ true) × (whole.frame ≡ frame_of_items limits (r.between).items) × ((r.between).blocks ≡ map_of whole)
      picture = ((r.between).beside).picture

      at : ItemsAt limits bytes (r.between).items (r.between).blocks
      at = items_at limits bytes (with_picture w whole) r.between picture.0

      full : m ≡ rows_of_scan limits before contents
      full = let z = r.done in omega (arith, count, z)

      places : (scan_after limits before contents).places ≡ row_places limits before contents m
      places = units_by_row f ids ∙ ap (λ n. first_rows f ids n) (sym full)

      rows_held : HoldsRows limits bytes before contents (r.between).items (r.between).blocks m
      rows_held =
          rows_of_items limits bytes before contents s.items s.blocks at.front at.tail m begins at.cut at.spelled at.leads (scan_among limits s.items s.blocks w.begun ((s.beside).begun) r.all picture.0 at.leads) places

      too_deep : (i y : ℕ) → i < length (frame_of limits before).components → y < blocks_down (frame_of limits before) (component_at (frame_of limits before) i) → (m + 1) * rows_in_mcu (frame_of limits before) i ≤ y → ⊥
      too_deep i y there down low =
          let v = rows_in_mcu f i in
          let cover = rows_cover f ids i is begins.of_all.all (named_in limits bytes before contents begins i there) in
          let all : scan_mcus_down f ids * v ≡ m * v = ap (λ n. n * v) (sym full) in
          let e : (m + 1) * v ≡ m * v + v = grind arith in
          omega (arith, cover, all, e, low, down)

  -- WHEREVER IT IS
  rows_left : (g : GoesByRow limits bytes w rows) → IsFrame (frame_of limits before) → BeginsScanOfAll limits bytes before contents
      → m + unfinished rows ≡ rows_of_scan limits before contents → RowsLeft limits bytes before contents m rows (g.stands).whole
  rows_left g is begins count = by (g.stands).at
    where
      by : RowsInside limits bytes w rows (g.stands).whole ⊎ RowsAfter limits bytes w rows (g.stands).whole → RowsLeft limits bytes before contents m rows (g.stands).whole
      by (inl r) =
          let t = place_tells limits r.items r.contents bytes (g.stands).whole rows (scan_left r.scan) (inside_tells limits bytes w rows (g.stands).whole r) (r.at).at in
          let one = begun_once limits bytes before (segments_of r.items) contents r.contents begins t.begins in
          let here = inside_left limits bytes w rows (g.stands).whole m r (g.stands).row (g.turned r.scan r.inside) t.begins (count ∙ same_scan limits bytes before (segments_of r.items) contents r.contents begins t.begins) in
          subst (λ (c : List ℕ). RowsLeft limits bytes before c m rows (g.stands).whole) (sym one.1) (subst (λ (l : List Segment). RowsLeft limits bytes l r.contents m rows (g.stands).whole) (sym one.0) here)
      by (inr r) = after_left (g.stands).whole r is begins count

-- THE ANSWER
pub rows_early : (bytes : List ℕ) (m : ℕ) (r : ReaderState) (all : Bool) → AreLimits r.limits → HasReadRows bytes m r → IsComplete r.file.begun.progress all → all ≡ true → IsEarlyByRows bytes m (record r { done = true })
rows_early bytes m r all limited h told e = record {
  done = refl;
  begun = record { before = b.before; contents = b.contents; begins = b.begins; rows = b.rows; has = b.has; head = b.head; told = b.told };
  meaning = meaning_of (frame_of r.limits left.segments) left.segments (map_of whole);
  early = left.early;
  kept = left.kept;
  head = head_of_early r.limits bytes b.before b.contents b.begins r.strip (meaning_of (frame_of r.limits left.segments) left.segments (map_of whole)) b.told left.early;
  all = record { all = whole; framed = there.framed; range = subst (λ (g : Frame). AreInRange (bounds g) (map_of whole)) (sym left.framed ∙ there.framed) left.range; real = real };
  rows = h.rows;
  blocks = h.blocks;
  completed = h.completed;
  given = subst (λ (x : Blocks). AgreeInRows f m h.blocks x) (sym real) (subst (λ (x : Blocks). AgreeInRows f m x (real_blocks f (map_of whole))) (sym blocks) (agree_rows r.limits bytes b.before b.contents b.begins m (map_of whole) is));
  work = λ due. subst (λ (x : Blocks). LendsRow f m (b.rows).coefs x) (sym real) (there.work due);
  later = λ i x y low. ap (λ (z : Blocks). z i x y) real ∙ there.later i x y low;
}
  where
    b : HasBegunRows bytes r
    b = h.begun

    whole : Picture
    whole = ((h.open).stands).whole

    f : Frame
    f = frame_of r.limits (h.begun).before

    is : IsFrame (frame_of r.limits (h.begun).before)
    is = begun_frame r.limits bytes (h.begun).before (h.begun).contents limited (h.begun).begins

    left : EndsWhole r.limits bytes r.file ((h.open).stands).whole
    left = ends_whole r.limits bytes r.file ((h.open).stands).whole all (goes_with r.limits bytes r.file (h.begun).rows h.open) h.stands h.short told e

    there : RowsLeft r.limits bytes (h.begun).before (h.begun).contents m ((h.begun).rows) ((h.open).stands).whole
    there = rows_left r.limits bytes r.file (h.begun).rows m (h.begun).before (h.begun).contents h.open is (h.begun).begins h.rows

    real : real_blocks (frame_of r.limits left.segments) (map_of whole) ≡ real_blocks f (map_of whole)
    real = ap (λ (g : Frame). real_blocks g (map_of whole)) (sym left.framed ∙ there.framed)

    blocks : h.blocks ≡ blocks_in (row_places r.limits (h.begun).before (h.begun).contents m) (map_of whole)
    blocks = rows_once r.limits bytes m h.blocks (blocks_in (row_places r.limits (h.begun).before (h.begun).contents m) (map_of whole)) h.completed.0 there.told

-- What a reader of MCU rows answers where its bytes end.

-- WITH A CURRENT MCU ROW each component was in a scan

each_of : (test : ℕ → Bool) (n : ℕ) → ((i : ℕ) → i < n → test i ≡ true) → all_of test (below n) ≡ true
each_of test zero h = refl
each_of test (suc n) h = all_join test (below n) (n ∷ []) ∙ ap (λ b. b && all_of test (n ∷ [])) (each_of test n (λ i l. h i (omega (arith, l)))) ∙ ap (λ b. b && true) (h n (omega arith))

-- there is a history of scans
some_scans : (o : Option Progress) → HasBegunAll o → is_none o ≡ false
some_scans None all = absurd (let z : has_begun [] 0 ≡ true = (all (record no_frame { components = no_component ∷ [] }) [] refl).1 0 (omega arith) in cc)
some_scans (Some p) all = refl

all_each : (o : Option Progress) (f : Frame) (heads : List ScanHead) → HasBegunAll o → 1 ≤ length f.components → RepresentsHeads o f heads → HasBegunEach o
all_each o f heads all some scans = record { frame = f; heads = heads; some = some; scans = scans; each = each_of (has_begun heads) (length f.components) (all f heads scans).1 }

rows_each : (limits : Limits) (bytes : List ℕ) (w : FileState) (rows : RowWork) → RepresentsRows limits bytes w rows → HasBegunEach w.begun.progress
rows_each limits bytes w rows s = by s.at
  where
    by : RowsInside limits bytes w rows s.whole ⊎ RowsAfter limits bytes w rows s.whole → HasBegunEach w.begun.progress
    by (inl r) =
        let before : List Segment = (0xda, r.contents) ∷ segments_of r.items in
        let f = frame_of limits before in
        let same : f ≡ frame_behind limits r.items = refl in
        let some = (((r.at).at).frame).count_low in
        all_each w.begun.progress f (heads_of f before) r.all (subst (λ (g : Frame). 1 ≤ length g.components) (sym same) some) ((r.held).begun).scans
    by (inr b) =
        let a = at_end limits bytes (with_picture w s.whole) (inl b.between) in
        let f = frame_of limits a.segments in
        let found = (a.begun).framed (some_scans w.begun.progress b.all) in
        all_each w.begun.progress f (heads_of f a.segments) b.all (some_at limits bytes (with_picture w s.whole) a found) (a.begun).scans

pub begun_rows : (bytes : List ℕ) (m : ℕ) (r : ReaderState) (all : Bool) → HasReadRows bytes m r → IsComplete r.file.begun.progress all → all ≡ true
begun_rows bytes m r all h told = each_complete r.file.begun.progress all (rows_each r.limits bytes r.file (h.begun).rows (h.open).stands) told

pub begun_given : (bytes : List ℕ) (m : ℕ) (r : ReaderState) (all : Bool) → HasGivenRow bytes m r → IsComplete r.file.begun.progress all → all ≡ true
begun_given bytes m r all h told = each_complete r.file.begun.progress all (rows_each r.limits bytes r.file (h.begun).rows h.open) told

strip_each : (limits : Limits) (bytes : List ℕ) (rows : Option RowWork) (w : FileState) (all : Bool) → RepresentsStrip limits bytes rows w → IsComplete w.begun.progress all → all ≡ true → HasBegunEach w.begun.progress
strip_each limits bytes None w all s told e = named_each limits bytes w all s told e
strip_each limits bytes (Some rows) w all s told e = rows_each limits bytes w rows s

pub early_answered : (bytes : List ℕ) (m : ℕ) (r : ReaderState) (all : Bool) → AreLimits r.limits → HasReadAll bytes m r → IsComplete r.file.begun.progress all → all ≡ true
    → (let new : ReaderState = record r { done = true } in (IsEarlyPlainly bytes new × (m ≡ 0)) ⊎ IsEarlyByRows bytes m new)
early_answered bytes m r all limited (inl (h, none)) told e = inl (record { none = h.none; plain = h.plain; early = ends_early r bytes all h.read told e }, none)
early_answered bytes m r all limited (inr h) told e = inr (rows_early bytes m r all limited h told e)

-- what it keeps
pub keeps_early : (r : ReaderState) (all : Bool) → r.done ≡ false → r.stop ≡ None → IsReading r → IsComplete r.file.begun.progress all → all ≡ true → IsReading (record r { done = true })
keeps_early r all undone skip_ahead k told e =
    let o = k.open skip_ahead undone in
    record {
      limited = k.limited;
      in_rows = k.in_rows;
      keeping = k.keeping;
      sparing = k.sparing;
      «open» = λ none undone_now. absurd (clash true refl undone_now);
      ended = λ done none. early_leaves r.limits o.0 r.file all (plain_stands r.limits o.0 r.rows r.file none (o.1).stands) told e;
      begun = λ done. strip_each r.limits o.0 r.rows r.file all (o.1).stands told e;
    }

-- A reader of MCU rows, from one piece to the next.

-- WHAT HOLDS before a piece, of which so many MCU rows were given
pub record RowsBefore (bytes : List ℕ) (m : ℕ) (r : ReaderState) : Type 0 where
  pub skip_ahead : r.stop ≡ None
  pub given : GivenBefore r.limits bytes m (work_of r)
  pub plain : NoRowsIn r.limits bytes r.rows
  pub told : (m ≡ 0) ⊎ ((blocks : Blocks) × TellsRows r.limits bytes m blocks)

begun_before : {bytes : List ℕ} {m : ℕ} (r : ReaderState) → r.stop ≡ None → (b : HasBegunRows bytes r) → RepresentsRows r.limits bytes r.file b.rows → HasLastByte r.limits bytes → m + unfinished b.rows ≡ rows_of_scan r.limits b.before b.contents
    → (blocks : Blocks) → TellsRows r.limits bytes m blocks → RowsBefore bytes m r
begun_before {bytes = bytes} {m = m} r stop b s last count blocks told = record {
  skip_ahead = stop;
  given = record {
    stands = subst (λ (x : Option RowWork). RowsOpen r.limits bytes x r.file) (sym b.has) (record { stands = s; last = λ some. last });
    none = λ none. absurd (let z : (let o : Option RowWork = Some b.rows in o) ≡ None = sym b.has ∙ none in cc);
    known = subst (λ (o : Option RowWork). KnowsRows r.limits bytes m o r.strip) (sym b.has) (record { before = b.before; contents = b.contents; begins = b.begins; told = b.told; count = count });
  };
  plain = subst (λ (o : Option RowWork). NoRowsIn r.limits bytes o) (sym b.has) tt;
  told = inr (blocks, told);
}

pub rows_before : (bytes : List ℕ) (m : ℕ) (r : ReaderState) → HasReadSoFar bytes m r → RowsBefore bytes m r
rows_before bytes m r (inl (p, z)) = record {
  skip_ahead = (p.read).skip_ahead;
  given = record {
    stands = plain_open r.limits bytes r.rows r.file p.none (p.read).open;
    none = λ none. z;
    known = subst (λ (o : Option RowWork). KnowsRows r.limits bytes m o r.strip) (sym p.none) tt;
  };
  plain = none_in r.limits bytes r.rows p.plain;
  told = inl z;
}
rows_before bytes m r (inr (inl h)) = begun_before r h.skip_ahead h.begun (h.open).stands h.byte h.rows h.blocks h.completed.0
rows_before bytes m r (inr (inr h)) = begun_before r h.skip_ahead h.begun h.open h.byte h.rows h.blocks h.told

-- IF THEY BEGAN there is at least one
some_rows : (limits : Limits) (bytes : List ℕ) (before : List Segment) (contents : List ℕ) → BeginsScanOfAll limits bytes before contents → rows_of_scan limits before contents ≡ 0 → ⊥
some_rows limits bytes before contents begins none =
    let f = frame_of limits before in
    let ids = head_components (head_in f contents) in
    let some = begun_places limits bytes before contents begins in
    let empty = ap (λ (l : List Place). length l) (units_by_row f ids ∙ ap (λ n. first_rows f ids n) none) in
    omega (arith, some, empty)

-- ALL MCU ROWS were given
pub record AllGiven (limits : Limits) (bytes more : List ℕ) (m : ℕ) : Type 0 where
  pub blocks : Blocks
  pub tells : TellsRows limits bytes m blocks
  pub completed : CompletesRows limits (bytes ++ more) m blocks

pub all_given : {limits : Limits} {bytes more : List ℕ} {m : ℕ} {before : List Segment} {contents : List ℕ} → BeginsScanOfAll limits (bytes ++ more) before contents → (m ≡ 0) ⊎ ((blocks : Blocks) × TellsRows limits bytes m blocks)
    → m ≡ rows_of_scan limits before contents → AllGiven limits bytes more m
all_given {limits = limits} {bytes = bytes} {more = more} {m = m} {before = before} {contents = contents} begins (inl z) all = absurd (some_rows limits (bytes ++ more) before contents begins (sym all ∙ z))
all_given {limits = limits} {bytes = bytes} {more = more} {m = m} {before = before} {contents = contents} begins (inr (blocks, told)) all =
    let f = frame_of limits before in
    let ids = head_components (head_in f contents) in
    record {
      blocks = blocks;
      tells = told;
      completed = all_complete limits (bytes ++ more) m blocks before contents begins (units_by_row f ids ∙ ap (λ n. first_rows f ids n) (sym all)) (rows_stay limits bytes more m blocks told);
    }

last_within : (limits : Limits) (bytes : List ℕ) → HasLastByte limits bytes → length bytes ≤ limits.input
last_within limits bytes l = (let short = l.short in let one = length-append l.front (l.byte ∷ []) in omega (arith, ap (λ x. length x) l.cut, one, short))

-- THE ITEMS of a complete file
module _ (limits : Limits) (all : List ℕ) (before : List Segment) (contents : List ℕ) (m : ℕ) (begins : BeginsScanOfAll limits all before contents) (w : FileState) (e : EndsFile limits all w) where
  abbrev k : EndStands limits all w
  k = e.ends

  -- they encode all MCU rows
  items_rows : m ≡ rows_of_scan limits before contents → HoldsRows limits all before contents (e.ends).items (e.ends).blocks m
  items_rows full =
      let f = frame_of limits before in
      let ids = head_components (head_in f contents) in
      let b = (((k.at).at).beside).behind in
      rows_of_items limits all before contents k.items k.blocks b.front (replicate (((k.at).at).beside).fill 255 ++ (k.at).tail) m begins b.cut b.spelled ((k.at).at).leads (some (has_scan (segments_of k.items)) refl)
      (units_by_row f ids ∙ ap (λ n. first_rows f ids n) (sym full))
    where
      some : (t : Bool) → has_scan (segments_of (e.ends).items) ≡ t → t ≡ true
      some true h = refl
      some false h = absurd (one_begun limits all w e h)

  -- and all blocks
  all_blocks : HoldsRows limits all before contents (e.ends).items (e.ends).blocks m → HasAllBlocks (frame_of limits before) (real_blocks (frame_of limits (segments_of (e.ends).items)) (e.ends).blocks)
  all_blocks held =
      let l = file_leaves limits all w e in
      record {
        all = l.coefs;
        framed = l.framed ∙ held.framed;
        range = subst (λ (g : Frame). AreInRange (bounds g) (map_of l.coefs)) held.framed (subst (λ (bs : Blocks). AreInRange (bounds (frame_of limits (segments_of k.items))) bs) l.as_map l.range);
        real = ap (λ (g : Frame). real_blocks g k.blocks) held.framed ∙ ap (real_blocks (frame_of limits before)) l.as_map;
      }

  -- which are those that were given
  blocks_agree : AreLimits limits → (given : Blocks) → TellsRows limits all m given → HoldsRows limits all before contents (e.ends).items (e.ends).blocks m
      → AgreeInRows (frame_of limits before) m given (real_blocks (frame_of limits (segments_of (e.ends).items)) (e.ends).blocks)
  blocks_agree limited given tells held =
      let one = rows_once limits all m given (blocks_in (row_places limits before contents m) k.blocks) tells held.told in
      let agree = agree_rows limits all before contents begins m k.blocks (begun_frame limits all before contents limited begins) in
      subst (λ (g : Frame). AgreeInRows (frame_of limits before) m given (real_blocks g k.blocks)) (sym held.framed)
      (subst (λ (x : Blocks). AgreeInRows (frame_of limits before) m x (real_blocks (frame_of limits before) k.blocks)) (sym one) agree)

-- AFTER A PIECE, by what is known of the scan that began
module _ (r : ReaderState) (new : FileSeen) (bytes more : List ℕ) (m : ℕ) (told : (m ≡ 0) ⊎ ((blocks : Blocks) × TellsRows r.limits bytes m blocks)) where
  abbrev all : List ℕ
  all = bytes ++ more

  -- as many MCU rows are complete as are known to be
  so_far : (rows : RowWork) → RowsKnown r.limits (bytes ++ more) m rows new.strip → RowsSoFar r.limits (bytes ++ more) rows → (blocks : Blocks) × CompletesRows r.limits (bytes ++ more) m blocks
  so_far rows k (inl done) = (let g = all_given k.begins told (let n = k.count in omega (arith, n, done)) in (g.blocks, g.completed))
  so_far rows k (inr (before, contents, c)) =
      let same = same_scan r.limits all k.before before k.contents contents k.begins c.begins in
      let n = k.count in
      let is : c.m ≡ m = omega (arith, c.count, n, same) in
      (c.blocks, subst (λ n. CompletesRows r.limits all n c.blocks) is c.completed)

  -- at a fault
  pub fault_rows : {after : RowWork} (f : FaultAt) → new.rows ≡ Some after → BeganAtFault r.limits (bytes ++ more) m new.strip new.file → StopsRows (bytes ++ more) m (after_piece (Err (stop.Fault f)) (with_work r new))
  fault_rows {after = after} f has b =
      let k = b.known in
      let complete = so_far b.mid k b.rows in
      record { begun = record { before = k.before; contents = k.contents; begins = k.begins; rows = after; has = has; head = b.head; told = k.told }; blocks = complete.0; completed = complete.1 }

  module _ (rows : RowWork) (has : new.rows ≡ Some rows) where
    -- no further MCU row is complete
    pub more_rows : RowsKnown r.limits (bytes ++ more) m rows new.strip → RowsGo r.limits (bytes ++ more) (Some rows) new.file → new.file.taken < r.limits.input → HasReadRows (bytes ++ more) m (after_piece (Ok fed.More) (with_work r new))
    more_rows k g short =
        let v = strip_read r.limits all (Some rows) new.file g.goes in
        let file : FileState = record new.file { window = v.0 } in
        let complete = so_far rows k (goes_completes r.limits all new.file rows g.goes) in
        record {
          skip_ahead = refl;
          undone = refl;
          short = omega (arith, counted r.limits all file v.1, short);
          stands = stands_file r.limits all file v.1;
          begun = record { before = k.before; contents = k.contents; begins = k.begins; rows = rows; has = has; head = open_head r.limits all (Some rows) new.file g.goes.stands; told = k.told };
          «open» = g.goes;
          byte = g.last refl;
          rows = k.count;
          blocks = complete.0;
          completed = complete.1;
        }

    -- a further one is
    pub given_row : (used : ℕ) → RowsKnown r.limits (bytes ++ more) (m + 1) rows new.strip → RowsGive r.limits (bytes ++ more) (Some rows) new.file → HasGivenRow (bytes ++ more) (m + 1) (after_piece (Ok (fed.Row used)) (with_work r new))
    given_row used k g =
        let w = g.row in
        let stands : RepresentsRows r.limits all new.file rows = record { whole = w.whole; row = w.row; at = inl w.inside } in
        let n = k.count in
        let f = row_fed r.limits all k.before k.contents new.file rows m k.begins w (omega (arith, n)) in
        record {
          skip_ahead = refl;
          undone = refl;
          within = last_within r.limits all g.last;
          begun = record { before = k.before; contents = k.contents; begins = k.begins; rows = rows; has = has; head = open_head r.limits all (Some rows) new.file stands; told = k.told };
          «open» = stands;
          byte = g.last;
          rows = n;
          blocks = f.blocks;
          told = f.told;
          last = m;
          count = refl;
          framed = f.framed;
          range = f.range;
          row = f.row;
        }

    -- the file is complete
    pub done_rows : (used : ℕ) → RowsKnown r.limits (bytes ++ more) m rows new.strip → AreLimits r.limits → EndsByRow r.limits (bytes ++ more) new.file rows → IsDoneByRows (bytes ++ more) m (after_piece (Ok (fed.Done used)) (with_work r new))
    done_rows used k limited e =
        let w = with_picture new.file e.whole in
        let ends = e.ends in
        let full : m ≡ rows_of_scan r.limits k.before k.contents = (let n = k.count in let z = e.done in omega (arith, n, z)) in
        let g = all_given k.begins told full in
        let held = items_rows r.limits all k.before k.contents m k.begins w ends full in
        record {
          done = refl;
          meaning = _;
          whole = file_means r.limits all w ends;
          kept = markers_kept r.limits (segments_of ((e.ends).ends).items) ((e.ends).ends).blocks new.file (((e.ends).ends).at).holds;
          begun = record { before = k.before; contents = k.contents; begins = k.begins; rows = rows; has = has; head = head_left r.limits all w ends; told = k.told };
          head = head_of_whole r.limits all k.before k.contents k.begins new.strip _ k.told (file_means r.limits all w ends).0;
          all = all_blocks r.limits all k.before k.contents m k.begins w ends held;
          full = full;
          blocks = g.blocks;
          completed = g.completed;
          given = blocks_agree r.limits all k.before k.contents m k.begins w ends limited g.blocks (rows_stay r.limits bytes more m g.blocks g.tells) held;
        }

-- The result of a piece of a file that is read MCU row by MCU row.

-- the bytes up to a fault that is n bytes of the piece after the others
pub up_to_fault : (bytes piece : List ℕ) (n at : ℕ) → at ≡ length bytes + n → take at (bytes ++ piece) ≡ bytes ++ take n piece
up_to_fault bytes piece n at is = ap (λ k. take k (bytes ++ piece)) is ∙ take-append-add bytes piece n

-- What a reader of MCU rows answers to a piece, whatever it has read before.

-- A ROW, and no sooner
not_sooner : (limits : Limits) (bytes piece : List ℕ) (used m : ℕ) (before : List Segment) (contents : List ℕ) (rows : RowWork) → BeginsScanOfAll limits (bytes ++ take used piece) before contents
    → m + unfinished rows ≡ rows_of_scan limits before contents → LastOfRow limits bytes piece used (Some rows) → NotSooner limits bytes piece used m
not_sooner limits bytes piece zero m before contents rows begins count last n blocks less told = absurd (omega (arith, less))
not_sooner limits bytes piece (suc early) m before contents rows begins count last n blocks less told = by lacks.2
  where
    lacks : LacksRow limits (bytes ++ take early piece) (Some rows)
    lacks = last early (omega arith)

    later : TellsRows limits (bytes ++ take early piece) m blocks
    later =
        let all : n + (early - n) ≡ early = omega (arith, less) in
        subst (λ (l : List ℕ). TellsRows limits l m blocks) (front_is bytes piece n (early - n) ∙ ap (λ k. bytes ++ take k piece) all) (rows_stay limits (bytes ++ take n piece) (take (early - n) (drop n piece)) m blocks told)

    by : RowsSoFar limits (bytes ++ take early piece) lacks.0 → ⊥
    by (inl none) = omega (arith, none, lacks.1)
    by (inr (front, first, c)) =
        let all = bytes ++ take (suc early) piece in
        let longer : (bytes ++ take early piece) ++ take 1 (drop early piece) ≡ all = (let one : early + 1 ≡ suc early = omega arith in front_is bytes piece early 1 ∙ ap (λ k. bytes ++ take k piece) one) in
        let there = subst (λ (l : List ℕ). BeginsScanOfAll limits l front first) longer (begun_on limits (bytes ++ take early piece) (take 1 (drop early piece)) front first c.begins) in
        let same = same_scan limits all before front contents first begins there in
        let is : m ≡ c.m + 1 = omega (arith, c.count, lacks.1, count, same) in
        c.completed.1 blocks (subst (λ k. TellsRows limits (bytes ++ take early piece) k blocks) is later)

-- THE ANSWERS
module _ {r : ReaderState} {new : FileSeen} {bytes piece : List ℕ} {m : ℕ} (b : RowsBefore bytes m r) where
  given_known : {used : ℕ} {answer : Step} → TakesPiece r.limits (work_of r) piece used answer new → KnowsAfter r.limits (bytes ++ take used piece) m answer new new.rows
  given_known t = t.known bytes m b.given

  -- if no MCU row is current after it, none were given
  none_given : {used : ℕ} {answer : Step} → TakesPiece r.limits (work_of r) piece used answer new → new.rows ≡ None → m ≡ 0
  none_given t is = b.given.none (none_first t.keeps is)

  -- More
  more_answered : (used : ℕ) → r.in_rows ≡ true → GoesOn r.limits (work_of r) piece used new → (let all : List ℕ = bytes ++ take used piece in let now : ReaderState = after_piece (Ok fed.More) (with_work r new) in (HasReadPlainly all now × (m ≡ 0)) ⊎ HasReadRows all m now)
  more_answered used row (t, few) = by new.rows refl (given_known t) (t.none bytes b.given.stands row b.plain)
    where
      g : RowsGo r.limits (bytes ++ take used piece) new.rows new.file
      g = t.after bytes b.given.stands

      by : (o : Option RowWork) → new.rows ≡ o → KnowsRows r.limits (bytes ++ take used piece) m o new.strip → NoRowsIn r.limits (bytes ++ take used piece) o
          → (let all : List ℕ = bytes ++ take used piece in let now : ReaderState = after_piece (Ok fed.More) (with_work r new) in (HasReadPlainly all now × (m ≡ 0)) ⊎ HasReadRows all m now)
      by None is k free = inl (record { none = is; plain = free; read = fed_more r new is g few }, none_given t is)
      by (Some rows) is k free = inr (more_rows r new bytes (take used piece) m b.told rows is k (subst (λ (o : Option RowWork). RowsGo r.limits (bytes ++ take used piece) o new.file) is g) few)

  -- Row
  row_answered : (used : ℕ) → TakesPiece r.limits (work_of r) piece used step.Row new → AfterFeedRow bytes m piece (Ok (fed.Row used)) (after_piece (Ok (fed.Row used)) (with_work r new))
  row_answered used t = by new.rows refl (given_known t) (t.after bytes b.given.stands).0 (t.after bytes b.given.stands).1
    where
      by : (o : Option RowWork) → new.rows ≡ o → KnowsRows r.limits (bytes ++ take used piece) (m + 1) o new.strip → RowsGive r.limits (bytes ++ take used piece) o new.file → LastOfRow r.limits bytes piece used o
          → AfterFeedRow bytes m piece (Ok (fed.Row used)) (after_piece (Ok (fed.Row used)) (with_work r new))
      by None is k g last = absurd g.row
      by (Some rows) is k g last =
          (given_row r new bytes (take used piece) m b.told rows is used k g, t.few, not_sooner r.limits bytes piece used (m + 1) k.before k.contents rows k.begins k.count last)

  -- Done
  done_answered : (used : ℕ) → AreLimits r.limits → r.in_rows ≡ true → TakesPiece r.limits (work_of r) piece used step.Whole new → AfterFeedRow bytes m piece (Ok (fed.Done used)) (after_piece (Ok (fed.Done used)) (with_work r new))
  done_answered used limited row t = (by new.rows refl (given_known t) (t.none bytes b.given.stands row b.plain), (t.after bytes b.given.stands).1, t.few)
    where
      ends : AfterStrip r.limits (bytes ++ take used piece) step.Whole new.rows new.file
      ends = (t.after bytes b.given.stands).0

      by : (o : Option RowWork) → new.rows ≡ o → KnowsRows r.limits (bytes ++ take used piece) m o new.strip → NoRowsIn r.limits (bytes ++ take used piece) o
          → (let all : List ℕ = bytes ++ take used piece in let now : ReaderState = after_piece (Ok (fed.Done used)) (with_work r new) in IsDonePlainly all now ⊎ IsDoneByRows all m now)
      by None is k free = inl (record { none = is; plain = free; done = fed_done r new used is ends })
      by (Some rows) is k free = inr (done_rows r new bytes (take used piece) m b.told rows is used k limited (subst (λ (o : Option RowWork). AfterStrip r.limits (bytes ++ take used piece) step.Whole o new.file) is ends))

  -- a fault
  fault_answered : (used : ℕ) (f : FaultAt) → r.in_rows ≡ true → TakesPiece r.limits (work_of r) piece used (step.Ended (stop.Fault f)) new → AfterFeedRow bytes m piece (Err (stop.Fault f)) (after_piece (Err (stop.Fault f)) (with_work r new))
  fault_answered used f row t =
      let a = t.after bytes b.given.stands in
      let at = a.1 in (
        a.0,
        omega (arith, at),
        a.2,
        subst (λ (x : List ℕ). StopsSoFar x m (after_piece (Err (stop.Fault f)) (with_work r new))) (sym (up_to_fault bytes piece used f.at at)) (by new.rows refl (given_known t) (t.none bytes b.given.stands row b.plain)),
      )
    where
      by : (o : Option RowWork) → new.rows ≡ o → RowsFault r.limits (bytes ++ take used piece) m new o → NoRowsIn r.limits (bytes ++ take used piece) o → StopsSoFar (bytes ++ take used piece) m (after_piece (Err (stop.Fault f)) (with_work r new))
      by None is k free = inl (is, free, none_given t is)
      by (Some after) is k free = inr (fault_rows r new bytes (take used piece) m b.told f is k)

  -- no memory
  memory_answered : (used : ℕ) → new.rows ≡ None → TakesPiece r.limits (work_of r) piece used (step.Ended stop.NoMemory) new → AfterFeedRow bytes m piece (Err stop.NoMemory) (after_piece (Err stop.NoMemory) (with_work r new))
  memory_answered used none t = ((t.after bytes b.given.stands).0, none, no_rows_in r.limits bytes r.rows b.plain (none_first t.keeps none))

-- THE READER
module _ {old new : ReaderState} {piece : List ℕ} where
  -- where markers are kept
  kept_by : (answer : Result FedRow Stop) (bytes : List ℕ) (m : ℕ) → old.in_rows ≡ true → RowsBefore bytes m old → (t : ReadsInto false old piece answer new) → AfterFeedKeeping bytes m piece answer (after_piece answer (with_work old t.work))
  kept_by (Ok fed.More) bytes m row b t =
      subst (λ l. (HasReadPlainly (bytes ++ l) (after_piece (Ok fed.More) (with_work old t.work)) × (m ≡ 0)) ⊎ HasReadRows (bytes ++ l) m (after_piece (Ok fed.More) (with_work old t.work))) (take_all (length piece) piece (omega arith))
      (more_answered b (length piece) row t.read.read.0)
  kept_by (Ok (fed.Row used)) bytes m row b t = row_answered b used t.read.read
  kept_by (Ok (fed.Done used)) bytes m row b t = done_answered b used t.reading.limited row t.read.read.0
  kept_by (Err (stop.Fault f)) bytes m row b t = fault_answered b t.read.read.0 f row t.read.read.1
  kept_by (Err stop.NoMemory) bytes m row b t = (t.read.read.1.after bytes b.given.stands).0

  pub feeds_keeping : (answer : Result FedRow Stop) → old.in_rows ≡ true → ReadsOne false old piece answer new → FeedsKeeping old piece answer new
  feeds_keeping answer row reads bytes m s =
      let b = rows_before bytes m old s in
      let t = reads b.skip_ahead in
      subst (λ (r : ReaderState). AfterFeedKeeping bytes m piece answer r) (sym t.is) (kept_by answer bytes m row b t)

  -- and where none are: it asks for no memory with a current MCU row
  no_rows_left : old.by_row ≡ true → (t : ReadsInto false old piece (Err stop.NoMemory) new) → t.work.rows ≡ None
  no_rows_left by t = t.read.read.1.memory (t.reading.keeping by) (t.reading.sparing by)

  pub feeds_row : (answer : Result FedRow Stop) → old.by_row ≡ true → ReadsOne false old piece answer new → FeedsRow old piece answer new
  feeds_row answer by reads bytes m s = (let b = rows_before bytes m old s in let t = reads b.skip_ahead in subst (λ (r : ReaderState). AfterFeedRow bytes m piece answer r) (sym t.is) (at answer b t))
    where
      at : (answer : Result FedRow Stop) → RowsBefore bytes m old → (t : ReadsInto false old piece answer new) → AfterFeedRow bytes m piece answer (after_piece answer (with_work old t.work))
      at (Ok x) b t = kept_by (Ok x) bytes m (t.reading.in_rows by) b t
      at (Err (stop.Fault f)) b t = kept_by (Err (stop.Fault f)) bytes m (t.reading.in_rows by) b t
      at (Err stop.NoMemory) b t = memory_answered b t.read.read.0 (no_rows_left by t) t.read.read.1

  none_asked : {bytes : List ℕ} {m : ℕ} → RowsBefore bytes m old → (t : ReadsInto false old piece (Err stop.NoMemory) new) → t.work.rows ≡ None → AsksForMemory new.limits (length bytes) (bytes ++ piece) new.file.head
  none_asked {bytes = bytes} b t none = subst (λ (r : ReaderState). AsksForMemory r.limits (length bytes) (bytes ++ piece) r.file.head) (sym t.is) ((t.read.read.1.after bytes b.given.stands).1 none)

  pub asks_keeping : (answer : Result FedRow Stop) → ReadsOne false old piece answer new → AsksOnFeedKeeping old piece answer new
  asks_keeping answer reads none bytes m s is =
      let b = rows_before bytes m old s in
      let t = subst (λ (a : Result FedRow Stop). ReadsInto false old piece a new) is (reads b.skip_ahead) in
      none_asked b t (ap (λ (r : ReaderState). r.rows) (sym t.is) ∙ none)

  pub asks_row : (answer : Result FedRow Stop) → old.by_row ≡ true → ReadsOne false old piece answer new → AsksOnFeedRow old piece answer new
  asks_row answer by reads bytes m s is =
      let b = rows_before bytes m old s in
      let t = subst (λ (a : Result FedRow Stop). ReadsInto false old piece a new) is (reads b.skip_ahead) in
      none_asked b t (no_rows_left by t)

-- What a reader of MCU rows has read.

-- how many bytes it has taken
pub all_taken : (bytes : List ℕ) (m : ℕ) (r : ReaderState) → HasReadAll bytes m r → r.file.taken ≡ length bytes
all_taken bytes m r (inl (h, z)) = counted r.limits bytes r.file h.read.open
all_taken bytes m r (inr h) = counted r.limits bytes (with_picture r.file ((h.open).stands).whole) (goes_with r.limits bytes r.file (h.begun).rows h.open)

-- where they end, if a component hasn't begun
pub truncated : (limits : Limits) (bytes : List ℕ) (w : FileState) (all : Bool) → RepresentsFile limits bytes w → length bytes < limits.input → IsComplete w.begun.progress all → all ≡ false → IsFirstFault limits bytes Truncated w.taken
truncated limits bytes w all s short told none =
    subst (λ n. IsFirstFault limits bytes Truncated n) (sym (counted limits bytes w s))
    (stands_truncated limits bytes (stands_file limits bytes w s) short (subst (λ b. TellsBegun limits bytes b) none (tells_begun limits bytes w all s told)))

pub all_truncated : (bytes : List ℕ) (m : ℕ) (r : ReaderState) (all : Bool) → HasReadAll bytes m r → IsComplete r.file.begun.progress all → all ≡ false → IsFirstFault r.limits bytes Truncated r.file.taken
all_truncated bytes m r all (inl (h, z)) told none = truncated r.limits bytes r.file all h.read.open h.read.short told none
all_truncated bytes m r all (inr h) told none = truncated r.limits bytes (with_picture r.file ((h.open).stands).whole) all (goes_with r.limits bytes r.file (h.begun).rows h.open) h.short told none

-- the state before any byte, however the file is to be read
pub read_nothing : (r : ReaderState) (by_row in_rows : Bool) → r.rows ≡ None → HasRead [] r → HasReadPlainly [] (record r { by_row = by_row; in_rows = in_rows })
read_nothing r by_row in_rows none k = record {
  none = none;
  plain = no_rows r.limits [] (no_head r.limits [] (inl (inl refl)));
  read = record { skip_ahead = k.skip_ahead; undone = k.undone; short = k.short; stands = k.stands; «open» = k.open; head = k.head };
}
