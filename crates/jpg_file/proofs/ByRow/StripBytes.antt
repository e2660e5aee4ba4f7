-- What follows the scan of a file that is read MCU row by MCU row.
use Rattle.std.proofs.Common.{◌≡◌, ◌⊎◌, ◌+◌, ◌<◌, ◌∷◌, ◌++◌, refl, arith, inl, ℕ, false, List, [], sym, ap, ◌∙◌, subst, Option, Some, None, Err, inr, is_some, unwrap_or, ◌≤◌, Bool, true, cond, length, take, get_or, Ok, zero, suc, Result, replicate, length-append, length-take-le, take-take, append-nil, get_or-take}
use Rattle.jpg_spec.proofs.Basics.Common.{clash}
use Rattle.jpg_spec.specs.Geometry.{Frame}
use Rattle.jpg_spec.specs.InForce.{frame_of, no_frame}
use Rattle.jpg_spec.specs.Items.{contents_rule, segments_of}
use Rattle.jpg_spec.specs.declared.fault.Fault.{Fault}
use Rattle.jpg_spec.specs.declared.frame.Limits.{Limits}
use Rattle.jpg_base.specs.declared.stop.Stop.{Stop}
use Rattle.jpg_base.specs.declared.stop.Stop.TheVariants as stop
use Rattle.jpg_markers.specs.declared.segments.SegStep.{SegStep}
use Rattle.jpg_markers.specs.declared.segments.SegStep.TheVariants as item
use Rattle.jpg_coefs.specs.Picture.{Picture}
use Rattle.jpg_markers.specs.Reading.{reading_of}
use Rattle.jpg_seq.specs.Reader.{IsRowOf}
use Rattle.jpg_file.specs.Read.SegmentState.{HasBegunAll, segments_view, JudgesHead}
use Rattle.jpg_file.specs.Read.File.{AfterFileByte, AfterFileStep, HasCompleteHeader, IsStop, RepresentsFile, IsBetweenFileItems, with_picture, limits_of, waiting_bytes, ScanHeld}
use Rattle.jpg_file.specs.Read.InData.{unfinished, AfterByte, AfterBytes, InRowData, IsDataOf, PassesByte, PassesRun, TakesByteInto, TakesRun, TakesRunInto, CountsScan, completes_row, InData, IsInside, scan_left}
use Rattle.jpg_file.specs.Read.ReadFile.{TakesFirstItem}
use Rattle.jpg_file.specs.Read.Strips.{AfterRows, GoesByRow, HasLaterHead, PassesItem, PassesLater, seen_of, RowsAfter, RowsInside, PassesRest, CompletesBefore, RowsSoFar, RowsRun, components_of, frame_behind, StripGoes, RepresentsStrip, StopsRows}
use Rattle.jpg_file.specs.Read.Items.{AfterItem, IsOfMarker, TakesMarker}
use Rattle.jpg_file.specs.declared.read.items.Items.{Items}
use Rattle.jpg_file.specs.declared.read.file.FileState.{FileState}
use Rattle.jpg_file.specs.declared.read.step.Step.{Step}
use Rattle.jpg_file.specs.declared.read.step.Step.TheVariants as step
use Rattle.jpg_file.specs.declared.read.rows.RowWork.{RowWork}
use Rattle.jpg_file.proofs.Files.FileSteps.{after_between, between_of, inside_done, head_by, head_is, front_stands, limits_are, waiting_scan, held_at, held_inside}
use Rattle.jpg_file.proofs.Files.ItemBytes.{segment_fault}
use Rattle.jpg_file.proofs.Scans.ScanBytes.{none_some, few_wait, ff_bytes}
use Rattle.std.proofs.lemmas.List.{length-replicate}
use Rattle.jpg_file.specs.declared.read.scan.InScan.{InScan}
use Rattle.jpg_file.proofs.ByRow.Faults.{byte_stopped, rest_stopped, run_last, run_stopped}
use Rattle.jpg_file.proofs.ByRow.RowTurns.{byte_counts, counts_in, counts_scan, marker_same, none_unfinished}
use Rattle.jpg_file.proofs.ByRow.StripRows.{data_goes, row_data, RowReady, file_with, half_of}
use Rattle.jpg_spec.specs.Markers.{Segment}
use Rattle.jpg_file.specs.Read.FirstHeader.{IsFirstHeaderOf}
use Rattle.jpg_file.specs.Read.Going.{has_waiting}
use Rattle.jpg_file.specs.Read.Passing.{PassesFront}
use Rattle.jpg_file.specs.declared.read.scan_history.ScanHistory.{ScanHistory}
use Rattle.jpg_file.specs.declared.read.window.Window.TheVariants as window
use Rattle.jpg_file.specs.declared.read.window.Window.{Window}

-- a header that has a fault
pub head_stops : (limits : Limits) (bytes : List ℕ) (w : FileState) (f : Frame) (contents : List ℕ) (fault : Fault) → HasCompleteHeader limits bytes w → w.items.held.frame ≡ Some f → contents ≡ (reading_of w.items.segments).contents
    → JudgesHead contents f (segments_view w.items.held) w.begun (Err fault) → IsStop limits bytes (record { fault = fault; at = w.taken })
head_stops limits bytes w f contents fault h is same judges =
    let s = h.at in
    let before = segments_of h.items in
    let framed : frame_of limits before ≡ f = ap (λ (o : Option Frame). unwrap_or o no_frame) (sym (s.holds).frame ∙ is) in
    let rule = subst (λ c. contents_rule limits before 0xda c ≡ Some fault) same (judges limits before framed s.holds (h.beside).begun) in
    ((h.beside).count, segment_fault limits bytes h.items h.blocks w.items s fault (subst (λ n. contents_rule limits before n (reading_of w.items.segments).contents ≡ Some fault) (sym h.code) rule))

-- the file continues after the scan
item_goes : (limits : Limits) (bytes : List ℕ) (w : FileState) (whole : Picture) (rows : RowWork) → RepresentsFile limits bytes (with_picture w whole) → w.scan ≡ None → IsRowOf rows.tops whole rows.coefs → rows.waiting ≡ [] → HasBegunAll w.begun.progress
    → unfinished rows ≡ 0 → GoesByRow limits bytes w rows
item_goes limits bytes w whole rows k none row empty begun done = record {
  stands = record { whole = whole; row = row; at = inr (record { between = between_of limits bytes (with_picture w whole) k (ap is_some none); none = empty; all = begun; done = done }) };
  none = empty;
  turned = λ scan e some. absurd (none_some w.scan scan e none);
}

-- EOI
pub item_ends : (limits : Limits) (bytes : List ℕ) (w : FileState) (whole : Picture) (rows : RowWork) (answer : Step) → AfterFileByte ⊥ limits bytes answer (with_picture w whole) → w.scan ≡ None → IsRowOf rows.tops whole rows.coefs → rows.waiting ≡ []
    → HasBegunAll w.begun.progress → unfinished rows ≡ 0 → AfterRows limits bytes answer w rows
item_ends limits bytes w whole rows step.More a none row empty begun done = item_goes limits bytes w whole rows a none row empty begun done
item_ends limits bytes w whole rows step.Row a none row empty begun done = absurd a
item_ends limits bytes w whole rows step.Whole a none row empty begun done = record { whole = whole; row = row; ends = a; done = done }
item_ends limits bytes w whole rows (step.Ended (stop.Fault f)) a none row empty begun done = a
item_ends limits bytes w whole rows (step.Ended stop.NoMemory) a none row empty begun done = tt

-- a byte after which the file goes on
pub item_more : (s : SegStep) (w : FileState) → (s ≡ item.Whole → ⊥) → (s ≡ item.Eoi → ⊥) → TakesFirstItem (seen_of w) (Ok s) step.More (seen_of w) × PassesLater w (Ok s) step.More w
item_more item.Whole w whole eoi = absurd (whole refl)
item_more item.Eoi w whole eoi = absurd (eoi refl)
item_more s w whole eoi = (
  record { same = refl; after = λ before limits bytes a. a; no = tt },
  record {
    same = refl;
    passes = λ limits before bytes whole rows a none row empty begun done. item_goes limits bytes w whole rows a none row empty begun done;
    memory = λ some. tt;
    no = tt;
  },
)

-- A BYTE after the scan

pub record IsAfter (limits : Limits) (bytes : List ℕ) (w : FileState) (rows : RowWork) : Type 0 where
  pub whole : Picture
  pub row : IsRowOf rows.tops whole rows.coefs
  pub between : IsBetweenFileItems limits bytes (with_picture w whole)
  pub all : HasBegunAll w.begun.progress
  pub done : unfinished rows ≡ 0

pub after_of : (limits : Limits) (bytes : List ℕ) (w : FileState) (rows : RowWork) → GoesByRow limits bytes w rows → is_some w.scan ≡ false → IsAfter limits bytes w rows
after_of limits bytes w rows g none = by (g.stands).at
  where
    by : RowsInside limits bytes w rows (g.stands).whole ⊎ RowsAfter limits bytes w rows (g.stands).whole → IsAfter limits bytes w rows
    by (inl r) = absurd (clash (is_some w.scan) (ap is_some r.inside) none)
    by (inr b) = record { whole = (g.stands).whole; row = (g.stands).row; between = b.between; all = b.all; done = b.done }

module _ (limits : Limits) (bytes : List ℕ) (w : FileState) (rows : RowWork) (b : IsAfter limits bytes w rows) (byte : ℕ) (held : Items) (step : Result SegStep Stop)
    (took : (let s = b.between in AfterItem limits (bytes ++ byte ∷ []) s.items s.blocks step held)) (same : (reading_of held.segments).taken ≡ w.taken + 1) (room : w.taken < limits.input) where
  abbrev next : FileState
  next = record w { items = held; taken = w.taken + 1 }

  -- its result, whatever the picture
  later_step : AfterFileStep w.scan limits (bytes ++ byte ∷ []) step (with_picture next b.whole)
  later_step = after_between limits bytes (byte ∷ []) step (with_picture w b.whole) held (w.taken + 1) b.between took same refl (omega (arith, room))

  pub later_goes : (result : Step) → GoesByRow limits bytes w rows → PassesItem next step result → AfterRows limits (bytes ++ byte ∷ []) result next rows
  later_goes result g passes = passes limits w.scan (bytes ++ byte ∷ []) b.whole rows later_step ((b.between).beside).none b.row g.none b.all b.done

  -- a scan header that is complete
  pub later_there : step ≡ Ok item.Whole → HasLaterHead next
  later_there is =
      let all = bytes ++ byte ∷ [] in
      let k = subst (λ (c : Result SegStep Stop). AfterFileStep w.scan limits all c (with_picture next b.whole)) is later_step in
      (limits, all, b.whole, k.0, b.all)

-- Bytes and pieces of a file that is read MCU row by MCU row.

-- Bytes inside the data of a scan that is read MCU row by MCU row.

-- data without a fault stop nothing
pub no_stop : (limits : Limits) (bytes : List ℕ) (rows : RowWork) (row : Bool) (came_to : Step) → came_to ≡ cond row step.Row step.More → StopsRows limits bytes came_to rows
no_stop limits bytes rows true came_to is f e = absurd (let z : (let s : Step = step.Row in s) ≡ step.Ended (stop.Fault f) = sym is ∙ e in cc)
no_stop limits bytes rows false came_to is f e = absurd (let z : (let s : Step = step.More in s) ≡ step.Ended (stop.Fault f) = sym is ∙ e in cc)

abbrev pub file_after : FileState → RowWork → Items → ℕ → FileState
file_after w rows held n = record w { items = held; window = window.Row rows; scan = None; taken = n }

-- NO BITS WAIT
module _ (bytes : List ℕ) (w : FileState) (scan : InScan) (rows : RowWork) (r : RowReady (limits_of w) bytes w scan rows) (none : rows.waiting ≡ []) where
  abbrev limits : Limits
  limits = limits_of w

  pub ready_data : InData limits r.items r.contents bytes scan r.whole
  ready_data = subst (λ (z : List Bool). InRowData limits r.items r.contents bytes z scan r.whole) none r.coded

  somewhere : IsInside scan r.whole
  somewhere = (limits, r.items, r.contents, bytes, ready_data)

  pub ready_row : IsDataOf scan (window.Row rows)
  ready_row = row_data limits r.items r.contents bytes scan r.whole rows ready_data r.of r.at r.row r.turned

  -- A BYTE

  abbrev with_byte : ℕ → List ℕ
  with_byte byte = bytes ++ byte ∷ []

  -- its result, and the picture after it
  byte_taken : (byte : ℕ) (given answer : Result Bool Fault) (new : InScan) (after : RowWork) → TakesByteInto scan (window.Row rows) byte given new (window.Row after) → given ≡ answer
      → (now : Picture) × IsRowOf after.tops now after.coefs × AfterByte limits r.items r.contents (with_byte byte) byte answer after.waiting new now
  byte_taken byte given answer new after took is =
      let t = took r.whole r.row somewhere in
      (t.0, t.1, subst (λ (a : Result Bool Fault). AfterByte limits r.items r.contents (with_byte byte) byte a after.waiting new t.0) is (t.2 limits r.items r.contents bytes ready_data))

  -- and of its MCU row
  pub byte_rows : (byte : ℕ) (new : InScan) (after : RowWork) (given : Result Bool Fault) → PassesByte scan (window.Row rows) byte given new (window.Row after)
      → CountsScan scan rows (completes_row rows.left after.left) new after
  byte_rows byte new after given passes = byte_counts scan new rows after byte given ready_row none passes

  pub byte_goes : (byte : ℕ) (new : InScan) (after : RowWork) (given : Result Bool Fault) (result : Step) → w.taken < limits.input
      → TakesByteInto scan (window.Row rows) byte given new (window.Row after) → PassesByte scan (window.Row rows) byte given new (window.Row after) → given ≡ Ok false
      → result ≡ cond (completes_row rows.left after.left) step.Row step.More
      → AfterRows limits (with_byte byte) result (file_with w after new (w.taken + 1)) after × StopsRows limits (with_byte byte) result rows
  byte_goes byte new after given result room took passes is came =
      let t = byte_taken byte given (Ok false) new after took is in
      let held = held_at w (window.Row after) (Some new) (byte ∷ []) (w.taken + 1) refl (omega (arith, room)) (omega (arith, few_wait new.gate)) r.held in
      let row = completes_row rows.left after.left in
      let last = data_goes limits r.items r.contents (with_byte byte) (file_with w after new (w.taken + 1)) scan new t.0 rows after row refl t.2 held r.of r.all r.at t.1 (byte_rows byte new after given passes) r.turned in
      (subst (λ (a : Step). AfterRows limits (with_byte byte) a (file_with w after new (w.taken + 1)) after) (sym came) last, no_stop limits (with_byte byte) rows row result came)

  pub byte_stops : (byte : ℕ) (new : InScan) (after : RowWork) (given : Result Bool Fault) (fault : Fault) (result : Step) (file : FileState)
      → TakesByteInto scan (window.Row rows) byte given new (window.Row after) → PassesByte scan (window.Row rows) byte given new (window.Row after) → given ≡ Err fault
      → result ≡ step.Ended (stop.Fault (record { fault = fault; at = w.taken + 1 }))
      → AfterRows limits (with_byte byte) result file after × StopsRows limits (with_byte byte) result rows
  byte_stops byte new after given fault result file took passes is came = (
    subst (λ (a : Step). AfterRows limits (with_byte byte) a file after) (sym came) (omega (arith, (r.held).count, length-append bytes (byte ∷ [])), (byte_taken byte given (Err fault) new after took is).2),
    λ f e. inr (segments_of r.items, r.contents, byte_stopped limits r.items r.contents bytes scan new rows after r.whole r.row (r.of, (r.at).at) fault byte given ready_data passes is),
  )

  -- if no units are left, all MCU rows are complete
  none_left : (byte : ℕ) (new : InScan) (after : RowWork) (given : Result Bool Fault) → PassesByte scan (window.Row rows) byte given new (window.Row after)
      → scan_left new ≡ 0 → unfinished after ≡ 0
  none_left byte new after given passes done =
      let f = frame_behind limits r.items in
      let ids = components_of limits r.items r.contents in
      none_unfinished f ids after (scan_left new) (counts_in f ids scan new rows after (completes_row rows.left after.left) r.at (byte_rows byte new after given passes)) done

  pub byte_leaves : (byte : ℕ) (new : InScan) (after : RowWork) (given : Result Bool Fault) (held : Items) (came : Result SegStep Stop) (result : Step)
      → w.scan ≡ Some scan → w.taken < limits.input → TakesByteInto scan (window.Row rows) byte given new (window.Row after)
      → PassesByte scan (window.Row rows) byte given new (window.Row after) → given ≡ Ok true → TakesMarker w.items byte came held → (reading_of held.segments).taken ≡ w.taken + 1
      → scan_left new ≡ 0 → PassesItem (file_after w after held (w.taken + 1)) came result
      → AfterRows limits (with_byte byte) result (file_after w after held (w.taken + 1)) after × StopsRows limits (with_byte byte) result rows
  byte_leaves byte new after given held came result inside room took by is marker taken done passes =
      let all = with_byte byte in
      let t = byte_taken byte given (Ok true) new after took is in
      let now = t.0 in
      let e = t.2 in
      let came_to = inside_done (held_inside w scan r.whole inside ready_data r.held) (byte ∷ []) (w.taken + 1) refl (omega (arith, room)) now held came (e.1).framed (marker r.items r.contents all now (r.held).head e.1) taken in
      let none = none_left byte new after given by done in
      (passes limits w.scan all now after came_to refl t.1 e.0 r.all none, λ f stopped. inl (ap unfinished (sym (marker_same scan new rows after byte given by is)) ∙ none))

  -- a marker by itself needs no memory
  pub leaves_kind : (byte : ℕ) (new : InScan) (after : RowWork) (given : Result Bool Fault) (held : Items) (came : Result SegStep Stop)
      → TakesByteInto scan (window.Row rows) byte given new (window.Row after) → given ≡ Ok true → TakesMarker w.items byte came held → IsOfMarker came
  leaves_kind byte new after given held came took is marker =
      let t = byte_taken byte given (Ok true) new after took is in
      (marker r.items r.contents (with_byte byte) t.0 (r.held).head t.2.1).2

  -- SOME BYTES one after another

  module _ (run : List ℕ) (n : ℕ) (new : InScan) (after : RowWork) (given : Result Bool Fault)
      (took : TakesRunInto scan (window.Row rows) run n given new (window.Row after)) (passes : PassesRun scan (window.Row rows) run n given new (window.Row after)) where
    abbrev now : Picture
    now = (took r.whole r.row somewhere).0

    of : IsRowOf after.tops now after.coefs
    of = (took r.whole r.row somewhere).1

    abbrev rest : TakesRun scan r.whole run n given after.waiting new now
    rest = (took r.whole r.row somewhere).2

    -- the bytes before the last of them, and that one too
    abbrev front : List ℕ
    front = bytes ++ take rest.early run

    abbrev byte : ℕ
    byte = get_or run rest.early 0

    abbrev mid : FileState
    mid = file_with w rows rest.mid (w.taken + rest.early)

    -- at most as many as there are
    pub run_few : n ≤ length run
    run_few = omega (arith, rest.count, rest.within)

    -- the MCU rows that those before the last one complete
    run_rows : RowsSoFar limits front rows
    run_rows =
        let k = run_last limits r.items r.contents bytes scan new rows after r.whole run n given r.row (r.of, (r.at).at) ready_data passes in
        let same : k.0 ≡ rest.early = omega (arith, k.1, rest.count) in
        inr (segments_of r.items, r.contents, subst (λ e. CompletesBefore limits (bytes ++ take e run) (segments_of r.items) r.contents rows) same k.2)

    -- the state before the last of them
    mid_data : InData limits r.items r.contents front rest.mid rest.between
    mid_data = rest.before limits r.items r.contents bytes ready_data

    run_mid : w.taken + length run ≤ limits.input → ScanHeld limits r.items r.contents front mid (rest.mid).gate
    run_mid room =
        let size = length-take-le rest.early run (omega (arith, rest.within)) in
        held_at w (window.Row rows) (Some rest.mid) (take rest.early run) (w.taken + rest.early) (omega (arith, size)) (omega (arith, rest.within, room))
        (omega (arith, ap waiting_bytes rest.open)) r.held

    run_stands : w.taken + length run ≤ limits.input → RepresentsFile limits front (with_picture mid rest.between)
    run_stands room = inr (held_inside mid rest.mid rest.between refl mid_data (run_mid room))

    -- all of them, by the result of the last one
    run_by : (result : Step) → w.taken + length run ≤ limits.input → StopsRows limits (bytes ++ take n run) result rows
        → AfterRows limits (front ++ byte ∷ []) result (file_with w after new (w.taken + n)) after
        → RowsRun limits bytes run n result rows (file_with w after new (w.taken + n)) after
    run_by result room stops last = record {
      mid = with_picture mid rest.between;
      early = rest.early;
      count = rest.count;
      within = rest.within;
      rows_before = run_rows;
      before = run_stands room;
      room = omega (arith, room, rest.within);
      head = refl;
      last = last;
      stops = stops;
    }

    last_taken : (answer : Result Bool Fault) → given ≡ answer → AfterBytes limits r.items r.contents (front ++ byte ∷ []) answer after.waiting new now
    last_taken answer is = subst (λ (a : Result Bool Fault). AfterBytes limits r.items r.contents (front ++ byte ∷ []) a after.waiting new now) is (rest.last limits r.items r.contents front mid_data)

    -- how many units are left
    pub run_counts : CountsScan scan rows (completes_row rows.left after.left) new after
    run_counts = let t = passes.2 in counts_scan scan rows t.taken new after t.machine t.due (ready_row.due t.due).1 t.took.2 t.work

    pub run_goes : {over : Bool} (result : Step) → w.taken + length run ≤ limits.input → given ≡ Ok over
        → result ≡ cond (completes_row rows.left after.left) step.Row step.More → RowsRun limits bytes run n result rows (file_with w after new (w.taken + n)) after
    run_goes {over} result room is came =
        let row = completes_row rows.left after.left in
        let all = front ++ byte ∷ [] in
        let answer = cond row step.Row step.More in
        let held = held_at mid (window.Row after) (Some new) (byte ∷ []) ((w.taken + rest.early) + 1) refl (omega (arith, room, rest.within)) (omega (arith, few_wait new.gate)) (run_mid room) in
        let one : (w.taken + rest.early) + 1 ≡ w.taken + n = omega (arith, rest.count) in
        let last : AfterRows limits all answer (file_with w after new ((w.taken + rest.early) + 1)) after =
        data_goes limits r.items r.contents all (file_with w after new ((w.taken + rest.early) + 1)) scan new now rows after row refl (last_taken (Ok over) is) held r.of r.all r.at of run_counts r.turned in
        run_by result room (no_stop limits (bytes ++ take n run) rows row result came)
        (subst (λ (a : Step). AfterRows limits all a (file_with w after new (w.taken + n)) after) (sym came) (subst (λ m. AfterRows limits all answer (file_with w after new m) after) one last))

    pub run_stops : (fault : Fault) (result : Step) → w.taken + length run ≤ limits.input → given ≡ Err fault
        → result ≡ step.Ended (stop.Fault (record { fault = fault; at = w.taken + n })) → RowsRun limits bytes run n result rows (file_with w after new (w.taken + n)) after
    run_stops fault result room is came =
        let all = front ++ byte ∷ [] in
        let size = length-take-le rest.early run (omega (arith, rest.within)) in
        let long : w.taken + n ≡ length all = omega (arith, (r.held).count, rest.count, size, length-append front (byte ∷ []), length-append bytes (take rest.early run)) in
        let stopped = run_stopped limits r.items r.contents bytes scan new rows after r.whole r.row (r.of, (r.at).at) fault run n given run_few ready_data passes is in
        run_by result room (λ f e. inr (segments_of r.items, r.contents, stopped)) (subst (λ (a : Step). AfterRows limits all a (file_with w after new (w.taken + n)) after) (sym came) (long, last_taken (Err fault) is))

-- A file that is read MCU row by MCU row and has a fault: which MCU rows the bytes up to it complete.

-- if another row is the current one, and as many are left
before_same : (limits : Limits) (bytes : List ℕ) (before : List Segment) (contents : List ℕ) (rows other : RowWork) → unfinished rows ≡ unfinished other → CompletesBefore limits bytes before contents rows → CompletesBefore limits bytes before contents other
before_same limits bytes before contents rows other same c = record { begins = c.begins; m = c.m; count = omega (arith, c.count, same); blocks = c.blocks; completed = c.completed }

module _ (bytes : List ℕ) (w : FileState) (scan : InScan) (rows : RowWork) (r : RowReady (limits_of w) bytes w scan rows) where
  -- BITS that waited
  pub rest_at_fault : (old after : RowWork) (new : InScan) (given : Result Bool Fault) (fault : Fault) → 1 ≤ length rows.waiting
      → unfinished rows ≡ unfinished old → PassesRest scan rows given new after → given ≡ Err fault → RowsSoFar (limits_of w) bytes old
  rest_at_fault old after new given fault some same passes is =
      let h = half_of (limits_of w) r.items r.contents bytes rows.waiting scan r.whole some r.coded in
      let k = rest_stopped (limits_of w) r.items r.contents bytes scan new rows after r.whole r.row (r.of, (r.at).at) fault given h passes is in
      inr (segments_of r.items, r.contents, before_same (limits_of w) bytes (segments_of r.items) r.contents rows old same k)

-- Some bytes of a file that is read MCU row by MCU row.

-- the file as it is read in one go
pub goes_with : (limits : Limits) (bytes : List ℕ) (w : FileState) (rows : RowWork) → (g : GoesByRow limits bytes w rows) → RepresentsFile limits bytes (with_picture w (g.stands).whole)
goes_with limits bytes w rows g = by (g.stands).at
  where
    by : RowsInside limits bytes w rows (g.stands).whole ⊎ RowsAfter limits bytes w rows (g.stands).whole → RepresentsFile limits bytes (with_picture w (g.stands).whole)
    by (inl r) =
        let z = (g.stands).whole in
        inr (held_inside w r.scan z r.inside (subst (λ (l : List Bool). InRowData limits r.items r.contents bytes l r.scan z) g.none r.coded) r.held)
    by (inr b) = inl b.between

module _ (limits : Limits) (front bytes : List ℕ) (new : FileState) (after : RowWork) (result : Step) where
  -- a stretch from the first of them on
  pub front_rows : (rows : RowWork) (size n : ℕ) → size ≤ length bytes → RowsRun limits front (take size bytes) n result rows new after
      → RowsRun limits front bytes n result rows new after
  front_rows rows size n few t =
      let low = t.within in
      let long = length-take-le size bytes few in
      let same : take t.early (take size bytes) ≡ take t.early bytes = take-take t.early size bytes (omega (arith, low, long)) in
      let byte : get_or (take size bytes) t.early 0 ≡ get_or bytes t.early 0 = get_or-take size bytes t.early 0 (omega (arith, low, long)) in
      record {
        mid = t.mid;
        early = t.early;
        count = t.count;
        within = omega (arith, low, long, few);
        rows_before = subst (λ l. RowsSoFar limits (front ++ l) rows) same t.rows_before;
        before = subst (λ l. RepresentsFile limits (front ++ l) t.mid) same t.before;
        room = t.room;
        head = t.head;
        stops = λ f e. subst (λ l. RowsSoFar limits (front ++ l) rows) (take-take n size bytes (omega (arith, t.count, low, long))) (t.stops f e);
        last = subst (λ b. AfterRows limits ((front ++ take t.early bytes) ++ b ∷ []) result new after) byte (subst (λ l. AfterRows limits ((front ++ l) ++ get_or (take size bytes) t.early 0 ∷ []) result new after) same t.last);
      }

-- THE FIRST BYTES that cause no event: fill bytes inside the data of the scan
rows_stay : (limits : Limits) (bytes run : List ℕ) (n : ℕ) (w : FileState) (rows : RowWork) → (g : GoesByRow limits bytes w rows) → (r : RowsInside limits bytes w rows (g.stands).whole) → has_waiting w.scan ≡ true
    → w.taken + n ≤ limits.input → GoesByRow limits (bytes ++ replicate n 255) (record w { taken = w.taken + n }) rows
rows_stay limits bytes run n w rows g r waits room =
    let h = r.held in
    let z = (g.stands).whole in
    let gate = waiting_scan w.scan r.scan waits r.inside in
    let inside = subst (λ (l : List Bool). InRowData limits r.items r.contents bytes l r.scan z) g.none r.coded in
    let more : InRowData limits r.items r.contents (bytes ++ replicate n 255) [] r.scan z = ff_bytes limits r.items r.contents bytes n r.scan z inside gate in
    record {
      stands = record {
        whole = z;
        row = (g.stands).row;
        at = inl (record {
          items = r.items;
          contents = r.contents;
          scan = r.scan;
          inside = r.inside;
          coded = subst (λ (l : List Bool). InRowData limits r.items r.contents (bytes ++ replicate n 255) l r.scan z) (sym g.none) more;
          held = held_at w w.window w.scan (replicate n 255) (w.taken + n) (omega (arith, length-replicate {A = ℕ} n 255)) room (omega arith) h;
          of = r.of;
          all = r.all;
          at = r.at;
        });
      };
      none = g.none;
      turned = g.turned;
    }

rows_filled : (limits : Limits) (bytes run : List ℕ) (n : ℕ) (w : FileState) (rows : RowWork) → (g : GoesByRow limits bytes w rows) → RowsInside limits bytes w rows (g.stands).whole → take n run ≡ replicate n 255 → ((n ≡ 0 → ⊥) → has_waiting w.scan ≡ true) → w.taken + n ≤ limits.input
    → GoesByRow limits (bytes ++ take n run) (record w { taken = w.taken + n }) rows
rows_filled limits bytes run zero w rows g r fill waits room =
    let same : w.taken ≡ w.taken + 0 = omega arith in
    subst (λ (t : ℕ). GoesByRow limits (bytes ++ []) (record w { taken = t }) rows) same (subst (λ (l : List ℕ). GoesByRow limits l w rows) (sym (append-nil bytes)) g)
rows_filled limits bytes run (suc m) w rows g r fill waits room =
    let n = suc m in
    subst (λ (l : List ℕ). GoesByRow limits (bytes ++ l) (record w { taken = w.taken + n }) rows) (sym fill) (rows_stay limits bytes run n w rows g r (waits (λ e. omega (arith, e))) room)

-- and what is between items after it
pub rows_passed : (limits : Limits) (bytes run : List ℕ) (n : ℕ) (w mid : FileState) (rows : RowWork) → GoesByRow limits bytes w rows → limits_of w ≡ limits → PassesFront w run n mid → GoesByRow limits (bytes ++ take n run) mid rows
rows_passed limits bytes run n w mid rows g same p = by (g.stands).at
  where
    whole : Picture
    whole = (g.stands).whole

    kept : mid.scan ≡ w.scan
    kept = ap (λ (x : FileState). x.scan) p.is

    room : w.taken + n ≤ limits.input
    room = (let taken : mid.taken ≡ w.taken + n = ap (λ (x : FileState). x.taken) p.is in let input = ap (λ (l : Limits). l.input) same in let few = p.room in omega (arith, few, taken, input))

    by : RowsInside limits bytes w rows (g.stands).whole ⊎ RowsAfter limits bytes w rows (g.stands).whole → GoesByRow limits (bytes ++ take n run) mid rows
    by (inl r) =
        let f = p.fills (ap is_some r.inside) in
        subst (λ (x : FileState). GoesByRow limits (bytes ++ take n run) x rows) (sym f.is) (rows_filled limits bytes run n w rows g r f.fill f.waits room)
    by (inr b) =
        let none = ((b.between).beside).none in
        item_goes limits (bytes ++ take n run) mid whole rows (p.stands (window.All whole) limits bytes (inl b.between)) (kept ∙ none) (g.stands).row g.none (subst (λ (h : ScanHistory). HasBegunAll h.progress) (sym (ap (λ (x : FileState). x.begun) p.is)) b.all) b.done

-- or without a current MCU row
pub strip_read : (limits : Limits) (bytes : List ℕ) (rows : Option RowWork) (w : FileState) → StripGoes limits bytes rows w → (q : Window) × RepresentsFile limits bytes (record w { window = q })
strip_read l bytes None w g = (w.window, g)
strip_read l bytes (Some rows) w g = (window.All (g.stands).whole, goes_with l bytes w rows g)

pub strip_passed : (limits : Limits) (bytes run : List ℕ) (n : ℕ) (rows : Option RowWork) (w mid : FileState) → StripGoes limits bytes rows w → limits_of w ≡ limits → PassesFront w run n mid → StripGoes limits (bytes ++ take n run) rows mid
strip_passed l bytes run n None w next g same p = front_stands p l bytes g
strip_passed l bytes run n (Some rows) w next g same p = rows_passed l bytes run n w next rows g same p

-- WHAT A STATE ENCODES, with a current MCU row or none

pub strip_limits : (limits : Limits) (bytes : List ℕ) (rows : Option RowWork) (w : FileState) → StripGoes limits bytes rows w → limits_of w ≡ limits
strip_limits limits bytes rows w g = let k = strip_read limits bytes rows w g in limits_are limits bytes (record w { window = k.0 }) k.1

pub open_limits : (limits : Limits) (bytes : List ℕ) (rows : Option RowWork) (w : FileState) → RepresentsStrip limits bytes rows w → limits_of w ≡ limits
open_limits limits bytes None w g = limits_are limits bytes w g
open_limits limits bytes (Some rows) w g = by g.at
  where
    by : RowsInside limits bytes w rows g.whole ⊎ RowsAfter limits bytes w rows g.whole → limits_of w ≡ limits
    by (inl r) = ((r.held).head).bounded
    by (inr b) = ((b.between).at).bounded

-- the first scan header of the bytes
pub open_head : (limits : Limits) (bytes : List ℕ) (rows : Option RowWork) (w : FileState) → RepresentsStrip limits bytes rows w → IsFirstHeaderOf limits bytes w.head
open_head limits bytes None w g = head_is limits bytes w g
open_head limits bytes (Some rows) w g = by g.at
  where
    by : RowsInside limits bytes w rows g.whole ⊎ RowsAfter limits bytes w rows g.whole → IsFirstHeaderOf limits bytes w.head
    by (inl r) = head_by limits bytes ((0xda, r.contents) ∷ segments_of r.items) w.head (λ none. absurd (clash true refl none)) (r.held).first_head
    by (inr b) = head_is limits bytes (with_picture w g.whole) (inl b.between)
