-- Bytes of a file, by the window that its blocks are kept in: all of a picture, or an MCU row.
use Rattle.std.proofs.Common.{◌≡◌, ◌⊎◌, ℕ, ◌+◌, ◌≤◌, ◌<◌, Bool, true, false, List, [], ◌∷◌, ◌++◌, length, take, refl, sym, ap, ◌∙◌, subst, arith, inl, inr, Option, Some, None, is_some, Result, Ok, Err, cond, length-append}
use Rattle.jpg_spec.proofs.Basics.Common.{clash, some_once}
use Rattle.jpg_spec.specs.declared.fault.Fault.{Fault}
use Rattle.jpg_spec.specs.declared.fault.FaultAt.{FaultAt}
use Rattle.jpg_spec.specs.declared.frame.Limits.{Limits}
use Rattle.jpg_base.specs.declared.stop.Stop.{Stop}
use Rattle.jpg_base.specs.declared.stop.Stop.TheVariants as stop
use Rattle.jpg_markers.specs.declared.segments.SegStep.{SegStep}
use Rattle.jpg_markers.specs.declared.segments.SegStep.TheVariants as item
use Rattle.jpg_coefs.specs.Picture.{Picture}
use Rattle.jpg_markers.specs.Reading.{HasRoom, reading_of}
use Rattle.jpg_file.specs.Read.File.{AfterFileByte, AfterFileStep, HasCompleteHeader, IsInsideScanOfFile, IsPlainRun, KeepsFile, NeedsNoMemory, RepresentsFile, TakesSome, limits_of, with_picture}
use Rattle.jpg_file.specs.Read.InData.{AfterByte, InData, IsDataOf, PassesByte, PassesRun, TakesByte, TakesByteInto, TakesRun, TakesRunInto, completes_row, scan_left}
use Rattle.jpg_file.specs.Read.Items.{IsOfMarker, KeepsItems, TakesItemByte, TakesMarker}
use Rattle.jpg_file.specs.Read.ReadFile.{PassesFirst, TakesBytes, TakesFirstHead, TakesFirstItem, TakesOne}
use Rattle.jpg_file.specs.Read.Step.{IfWants, IsNoRow, HasMemory}
use Rattle.jpg_file.specs.Read.Strips.{AfterRows, AfterStrip, CountsRows, CountsStrip, FileSeen, GoesByRow, GoesOnRest, HasHeader, HasNoRows, KnowsRows, NoneAfter, PassesLater, RepresentsRows, RepresentsStrip, Resumed, RowsAfter, RowsInside, RowsRun, SparesRows, StopsRows, StripGoes, StripRun, TakesRest, seen_of}
use Rattle.jpg_file.specs.Read.Window.{PassesBytes, Shows, left_in, rows_in, waiting_in}
use Rattle.jpg_file.specs.declared.read.file.FileState.{FileState}
use Rattle.jpg_coefs.specs.declared.machine.Taken.{Taken}
use Rattle.jpg_file.specs.declared.read.machine.ScanReader.{ScanReader}
use Rattle.jpg_file.specs.declared.read.items.Items.{Items}
use Rattle.jpg_file.specs.declared.read.rows.RowWork.{RowWork}
use Rattle.jpg_file.specs.declared.read.scan.InScan.{InScan}
use Rattle.jpg_file.specs.declared.read.step.Step.{Step}
use Rattle.jpg_file.specs.declared.read.step.Step.TheVariants as step
use Rattle.jpg_file.specs.declared.read.window.Window.{Window}
use Rattle.jpg_file.specs.declared.read.window.Window.TheVariants as window
use Rattle.jpg_file.proofs.Files.FileSteps.{after_between, asked, between_of, front_taken, held_inside, inside_done, inside_more, inside_of, run_goes, run_stops}
use Rattle.jpg_file.proofs.Scans.ScanBytes.{data_of, few_wait, none_some, whole_byte, whole_data, whole_run}
use Rattle.jpg_file.proofs.ByRow.RowTurns.{counts_rows, marker_same}
use Rattle.jpg_file.proofs.ByRow.StripBegin.{none_headed}
use Rattle.jpg_file.proofs.ByRow.StripBytes.{IsAfter, after_of, byte_goes, byte_leaves, byte_rows, byte_stops, front_rows, later_goes, later_there, ready_data, ready_row, run_counts, run_goes as rows_go, run_stops as rows_stop}
use Rattle.jpg_file.proofs.ByRow.StripRows.{row_ready}
use Rattle.jpg_file.proofs.ByRow.StripWorks.{first_taken, headed, plain_bytes, resumed_rows, some_rows, stops, stops_on, wants, wants_nothing}

-- WITH A CURRENT MCU ROW before and after
module _ (w new : FileState) (rows after : RowWork) (answer : Step) (was : w.window ≡ window.Row rows) (is : new.window ≡ window.Row after) (keeps : KeepsFile w new) (head : new.head ≡ w.head) where
  had : rows_in w.window ≡ Some rows
  had = ap rows_in was

  now : rows_in new.window ≡ Some after
  now = ap rows_in is

  -- the number of MCU rows
  counted : CountsRows answer rows after → CountsStrip answer (rows_in w.window) (rows_in new.window)
  counted k = subst (λ (o : Option RowWork). CountsStrip answer (rows_in w.window) o) (sym now) (subst (λ (o : Option RowWork). CountsStrip answer o (Some after)) (sym had) k)

  spared : (NeedsNoMemory w → NeedsNoMemory new) → SparesRows (rows_in w.window) w → SparesRows (rows_in new.window) new
  spared on s = subst (λ (o : Option RowWork). SparesRows o new) (sym now) (on (subst (λ (o : Option RowWork). SparesRows o w) had s))

  -- if the items are the same
  spares_same : new.items ≡ w.items → NeedsNoMemory w → NeedsNoMemory new
  spares_same same s = record {
    keeping = ap (λ (i : Items). i.held.keeping) same ∙ s.keeping;
    scanned = ap (λ (i : Items). i.held.scanned) same ∙ s.scanned;
    room = subst (λ (i : Items). HasRoom i.segments) (sym same) s.room;
  }

  -- THE BITS that waited
  pub rows_resumed : new.items ≡ w.items → TakesRest w rows answer new after → GoesOnRest answer → CountsRows answer rows after → HasMemory answer → Resumed (seen_of w) answer (seen_of new)
  rows_resumed same took goes counts memory = record {
    after = λ bytes k.
        subst (λ (o : Option RowWork). AfterStrip (limits_of w) bytes answer o new) (sym now) (took bytes (subst (λ (o : Option RowWork). RepresentsStrip (limits_of w) bytes o w) had k)).0;
    goes = goes;
    plain = λ none. absurd (clash (is_some (rows_in w.window)) (ap is_some had) none);
    stays = ap is_some now ∙ sym (ap is_some had);
    rows = counted counts;
    memory = memory;
    strip = keeps.strip;
    by_row = keeps.by_row;
    sparing = spared (spares_same same);
    head = head;
    keeping = keeps.keeping;
    faults = resumed_rows (seen_of w) rows answer had new after took;
  }

  -- SOME BYTES
  pub rows_bytes : (bytes : List ℕ) (n : ℕ) → new.items ≡ w.items → ((front : List ℕ) → GoesByRow (limits_of w) front w rows → RowsRun (limits_of w) front bytes n answer rows new after)
      → CountsRows answer rows after → HasMemory answer → TakesBytes (seen_of w) bytes n answer (seen_of new)
  rows_bytes bytes n same run counts memory = record {
    after = λ front g.
        subst (λ (o : Option RowWork). StripRun (limits_of w) front bytes n answer (rows_in w.window) o new) (sym now)
        (some_rows (limits_of w) front bytes n answer (rows_in w.window) rows new after had (run front (subst (λ (o : Option RowWork). StripGoes (limits_of w) front o w) had g)));
    rows = counted counts;
    sparing = λ e s. spared (spares_same same) s;
    keeping = keeps.keeping;
    by_row = keeps.by_row;
    fresh = λ none. absurd (none_some (rows_in w.window) rows had none);
    current = λ some. record { memory = λ s. memory; strip = keeps.strip; head = head };
  }

  -- A BYTE
  pub rows_one : (byte : ℕ)
      → ((bytes : List ℕ) → GoesByRow (limits_of w) bytes w rows → AfterRows (limits_of w) (bytes ++ byte ∷ []) answer new after × StopsRows (limits_of w) (bytes ++ byte ∷ []) answer rows)
      → CountsRows answer rows after → (NeedsNoMemory w → HasMemory answer) → (NeedsNoMemory w → NeedsNoMemory new) → TakesOne (seen_of w) byte answer (seen_of new)
  rows_one byte took counts memory sparing = record {
    after = λ bytes g.
        subst (λ (o : Option RowWork). AfterStrip (limits_of w) (bytes ++ byte ∷ []) answer o new) (sym now) (took bytes (subst (λ (o : Option RowWork). StripGoes (limits_of w) bytes o w) had g)).0;
    stops = λ bytes current has g.
        (let one = some_once rows current (sym had ∙ has) in
        subst (λ (r : RowWork). StopsRows (limits_of w) (bytes ++ byte ∷ []) answer r) one (took bytes (subst (λ (r : RowWork). GoesByRow (limits_of w) bytes w r) (sym one) g)).1);
    rows = counted counts;
    sparing = λ e s. spared sparing s;
    keeping = keeps.keeping;
    by_row = keeps.by_row;
    head = stops answer (new.head ≡ w.head) head;
    fresh = λ none. absurd (none_some (rows_in w.window) rows had none);
    current = λ some. record { memory = λ s. memory (subst (λ (o : Option RowWork). SparesRows o w) had s); strip = keeps.strip; head = head };
  }

-- the scan is over: no bits wait
pub rests_after : (w : FileState) (rows : RowWork) → w.window ≡ window.Row rows → w.scan ≡ None → TakesRest w rows step.More (record w { window = window.Row rows }) rows
rests_after w rows is none = λ bytes k.
    (let same : w ≡ record w { window = window.Row rows } = ap (λ (o : Window). let x : FileState = record w { window = o } in x) is in
    (subst (λ (x : FileState). GoesByRow (limits_of w) bytes x rows) same (goes bytes k k.at), λ f e. absurd cc))
  where
    goes : (bytes : List ℕ) → (k : RepresentsRows (limits_of w) bytes w rows) → RowsInside (limits_of w) bytes w rows k.whole ⊎ RowsAfter (limits_of w) bytes w rows k.whole → GoesByRow (limits_of w) bytes w rows
    goes bytes k (inl r) = absurd (none_some w.scan r.scan r.inside none)
    goes bytes k (inr b) = record { stands = k; none = b.none; turned = λ scan e some. absurd (none_some w.scan scan e none) }

-- bits that wait end no file
pub goes_data : (answer : Step) (row : Bool) → answer ≡ cond row step.Row step.More → GoesOnRest answer
goes_data answer row is = subst (λ (a : Step). GoesOnRest a) (sym is) (by row)
  where
    by : (row : Bool) → GoesOnRest (cond row step.Row step.More)
    by true = tt
    by false = tt

pub goes_fault : (answer : Step) (f : FaultAt) → answer ≡ step.Ended (stop.Fault f) → GoesOnRest answer
goes_fault answer f is = subst (λ (a : Step). GoesOnRest a) (sym is) tt

-- THE RESULT OF DATA, by how many units of the MCU row were left, and are
abbrev pub data_answer : Result Bool Fault → ℕ → ℕ → ℕ → Step
data_answer (Ok over) before left at = cond (completes_row before left) step.Row step.More
data_answer (Err fault) before left at = step.Ended (stop.Fault (record { fault = fault; at = at }))

data_memory : (given : Result Bool Fault) (before left at : ℕ) → HasMemory (data_answer given before left at)
data_memory (Ok over) before left at = by (completes_row before left)
  where
    by : (b : Bool) → HasMemory (cond b step.Row step.More)
    by true = tt
    by false = tt
data_memory (Err fault) before left at = tt

-- INSIDE THE DATA of a scan: its picture, of which the window shows a part, and the file as it is read in one go
pub record DataReady (bytes : List ℕ) (w : FileState) (scan : InScan) (o : Window) : Type 0 where
  pub whole : Picture
  pub shows : Shows o whole
  pub none : waiting_in o ≡ []
  pub inside : IsInsideScanOfFile (limits_of w) bytes (with_picture w whole)
  pub coded : InData (limits_of w) inside.items inside.contents bytes scan whole
  pub given : IsDataOf scan o

module _ (bytes : List ℕ) (w : FileState) (scan : InScan) (is : w.scan ≡ Some scan) where
  pub data_ready : StripGoes (limits_of w) bytes (rows_in w.window) w → DataReady bytes w scan w.window
  data_ready go = by w.window refl go
    where
      by : (o : Window) → w.window ≡ o → StripGoes (limits_of w) bytes (rows_in o) w → DataReady bytes w scan o
      by window.None e k = (let s = inside_of (limits_of w) bytes w k (ap is_some is) in absurd (let z : window.None ≡ window.All s.coefs = sym e ∙ s.has in cc))
      by (window.All q) e k =
          let here = subst (λ (o : Window). RepresentsFile (limits_of w) bytes (record w { window = o })) e k in
          let s = inside_of (limits_of w) bytes (with_picture w q) here (ap is_some is) in
          let coded = data_of {w = with_picture w q} refl is s in
          record {
            whole = q;
            shows = refl;
            none = refl;
            inside = s;
            coded = coded;
            given = whole_data (limits_of w) s.items s.contents bytes scan q coded;
          }
      by (window.Row rows) e g =
          let r = row_ready (limits_of w) bytes w scan is rows g in
          let coded = ready_data bytes w scan rows r g.none in
          record {
            whole = r.whole;
            shows = r.row;
            none = g.none;
            inside = held_inside w scan r.whole is coded r.held;
            coded = coded;
            given = ready_row bytes w scan rows r g.none;
          }

-- a window that isn't what it was
other_window : (was now : Window) (byte : ℕ) (given : Result Bool Fault) {old : InScan} (s : InScan) → PassesByte old was byte given s now → (now ≡ was → ⊥)
    → ((passed : ℕ) (t : Taken) (m : ScanReader) → PassesBytes was old.machine (passed ∷ []) 1 t now m → ⊥) → ⊥
other_window was now byte given s (inl n) differs never = differs n.same
other_window was now byte given s (inr d) differs never = never d.passed (d.took).taken (d.took).machine (d.took).took

-- DATA are taken into it
module _ (w : FileState) (scan : InScan) (is : w.scan ≡ Some scan) (front : List ℕ) (go : StripGoes (limits_of w) front (rows_in w.window) w) where
  abbrev moved : Window → InScan → ℕ → FileState
  moved o s n = record w { window = o; scan = Some s; taken = w.taken + n }

  -- data begin no row of a picture
  no_row : (given : Result Bool Fault) (answer : Step) (at : ℕ) → answer ≡ data_answer given 0 0 at → IsNoRow answer
  no_row (Ok over) answer at came = subst (λ (a : Step). IsNoRow a) (sym came) tt
  no_row (Err fault) answer at came = subst (λ (a : Step). IsNoRow a) (sym came) tt

  has_memory : (given : Result Bool Fault) (answer : Step) (before left at : ℕ) → answer ≡ data_answer given before left at → HasMemory answer
  has_memory given answer before left at came = subst (λ (a : Step). HasMemory a) (sym came) (data_memory given before left at)

  -- SOME BYTES of a scan
  pub run_taken : (bytes : List ℕ) (size n : ℕ) (s : InScan) (o : Window) (given : Result Bool Fault) (answer : Step) → size ≤ length bytes → IsPlainRun w (take size bytes)
      → TakesRunInto scan w.window (take size bytes) n given s o → PassesRun scan w.window (take size bytes) n given s o → answer ≡ data_answer given (left_in w.window) (left_in o) (w.taken + n)
      → TakesBytes (seen_of w) bytes n answer (seen_of (moved o s n))
  run_taken bytes size n s o given answer few plain took passes came = by w.window refl o go took passes came
    where
      by : (was : Window) → w.window ≡ was → (now : Window) → StripGoes (limits_of w) front (rows_in was) w → TakesRunInto scan was (take size bytes) n given s now → PassesRun scan was (take size bytes) n given s now
          → answer ≡ data_answer given (left_in was) (left_in now) (w.taken + n) → TakesBytes (seen_of w) bytes n answer (seen_of (moved now s n))
      by window.None e now g t p c = absurd (p.2).took
      by (window.All q) e window.None g t p c = absurd (p.2).took
      by (window.All q) e (window.Row after) g t p c = absurd (p.2).took
      by (window.Row rows) e window.None g t p c = absurd (p.2).took
      by (window.Row rows) e (window.All after) g t p c = absurd (p.2).took
      by (window.All q) e (window.All after) g t p c =
          let k = inside_of (limits_of w) front w g (ap is_some is) in
          let here = whole_run scan s q after (take size bytes) n given (limits_of w, k.items, k.contents, front, data_of {w = w} e is k) t in
          plain_bytes (seen_of w) (seen_of (moved (window.All after) s n)) bytes n answer (ap rows_in e) refl refl (headed (limits_of w) front w g (ap is_some is))
          (front_taken w bytes size n answer (moved (window.All after) s n) few (some_taken q after e given here c)) (no_row given answer (w.taken + n) c) refl
        where
          some_taken : (q after : Picture) → w.window ≡ window.All q → (given : Result Bool Fault) → TakesRun scan q (take size bytes) n given [] s after → answer ≡ data_answer given 0 0 (w.taken + n)
              → TakesSome w (take size bytes) n answer (moved (window.All after) s n)
          some_taken q after e (Ok over) r c = subst (λ (a : Step). TakesSome w (take size bytes) n a (moved (window.All after) s n)) (sym c) (run_goes w e is (take size bytes) plain.room r refl)
          some_taken q after e (Err fault) r c = run_stops w e is (take size bytes) plain.room r refl c
      by (window.Row rows) e (window.Row after) g t p c =
          rows_bytes w (moved (window.Row after) s n) rows after answer e refl (record { by_row = refl; strip = refl; keeping = refl }) refl bytes n refl
          (λ f g. front_rows (limits_of w) f bytes (moved (window.Row after) s n) after answer rows size n few (rows_taken rows after given t p c f g))
          (counts rows after given t p c g) (has_memory given answer rows.left after.left (w.taken + n) c)
        where
          rows_taken : (rows after : RowWork) (given : Result Bool Fault) → TakesRunInto scan (window.Row rows) (take size bytes) n given s (window.Row after) → PassesRun scan (window.Row rows) (take size bytes) n given s (window.Row after)
              → answer ≡ data_answer given rows.left after.left (w.taken + n) → (f : List ℕ) → GoesByRow (limits_of w) f w rows → RowsRun (limits_of w) f (take size bytes) n answer rows (moved (window.Row after) s n) after
          rows_taken rows after (Ok over) t p c f g = rows_go f w scan rows (row_ready (limits_of w) f w scan is rows g) g.none (take size bytes) n s after (Ok over) t p answer plain.room refl c
          rows_taken rows after (Err fault) t p c f g = rows_stop f w scan rows (row_ready (limits_of w) f w scan is rows g) g.none (take size bytes) n s after (Err fault) t p fault answer plain.room refl c

          counts : (rows after : RowWork) (given : Result Bool Fault) → TakesRunInto scan (window.Row rows) (take size bytes) n given s (window.Row after) → PassesRun scan (window.Row rows) (take size bytes) n given s (window.Row after)
              → answer ≡ data_answer given rows.left after.left (w.taken + n) → GoesByRow (limits_of w) front w rows → CountsRows answer rows after
          counts rows after (Ok over) t p c g = counts_rows scan s rows after _ answer (run_counts front w scan rows (row_ready (limits_of w) front w scan is rows g) g.none (take size bytes) n s after (Ok over) t p) c
          counts rows after (Err fault) t p c g = subst (λ (a : Step). CountsRows a rows after) (sym c) tt

  -- A BYTE of it, after which its data aren't over
  pub data_taken : (byte : ℕ) (s : InScan) (o : Window) (given : Result Bool Fault) (answer : Step) → w.taken < (limits_of w).input → (given ≡ Ok true → ⊥)
      → TakesByteInto scan w.window byte given s o → PassesByte scan w.window byte given s o → answer ≡ data_answer given (left_in w.window) (left_in o) (w.taken + 1)
      → TakesOne (seen_of w) byte answer (seen_of (moved o s 1))
  data_taken byte s o given answer room going took passes came = by w.window refl o go took passes came
    where
      by : (was : Window) → w.window ≡ was → (now : Window) → StripGoes (limits_of w) front (rows_in was) w → TakesByteInto scan was byte given s now → PassesByte scan was byte given s now
          → answer ≡ data_answer given (left_in was) (left_in now) (w.taken + 1) → TakesOne (seen_of w) byte answer (seen_of (moved now s 1))
      by window.None e now g t p c = (let k = inside_of (limits_of w) front w g (ap is_some is) in absurd (let z : window.None ≡ window.All k.coefs = sym e ∙ k.has in cc))
      by (window.All q) e window.None g t p c = absurd (other_window (window.All q) window.None byte given s p (λ e. cc) (λ n t m z. z))
      by (window.All q) e (window.Row after) g t p c = absurd (other_window (window.All q) (window.Row after) byte given s p (λ e. cc) (λ n t m z. z))
      by (window.Row rows) e window.None g t p c = absurd (other_window (window.Row rows) window.None byte given s p (λ e. cc) (λ n t m z. z))
      by (window.Row rows) e (window.All after) g t p c = absurd (other_window (window.Row rows) (window.All after) byte given s p (λ e. cc) (λ n t m z. z))
      by (window.All q) e (window.All after) g t p c =
          first_taken (seen_of w) (seen_of (moved (window.All after) s 1)) byte answer (ap rows_in e) refl refl (λ bytes k. result q after e given (whole_byte scan s q after byte given t) going c bytes k) (no_row given answer (w.taken + 1) c) refl
          (wants_nothing answer (w.scan ≡ None) (has_memory given answer 0 0 (w.taken + 1) c)) refl
        where
          result : (q after : Picture) → w.window ≡ window.All q → (given : Result Bool Fault) → TakesByte scan q byte given [] s after → (given ≡ Ok true → ⊥) → answer ≡ data_answer given 0 0 (w.taken + 1) → (bytes : List ℕ) → RepresentsFile (limits_of w) bytes w
              → AfterFileByte (Unit {0}) (limits_of w) (bytes ++ byte ∷ []) answer (moved (window.All after) s 1)
          result q after e (Ok true) t going c bytes k = absurd (going refl)
          result q after e (Ok false) t going c bytes k =
              let i = inside_of (limits_of w) bytes w k (ap is_some is) in
              subst (λ (a : Step). AfterFileByte (Unit {0}) (limits_of w) (bytes ++ byte ∷ []) a (moved (window.All after) s 1)) (sym c)
              (inr (inside_more i (byte ∷ []) (w.taken + 1) refl (omega (arith, room)) after s (window.All after) (Some s) refl refl (t (limits_of w) i.items i.contents bytes (data_of {w = w} e is i)) (few_wait s.gate)))
          result q after e (Err fault) t going c bytes k =
              let i = inside_of (limits_of w) bytes w k (ap is_some is) in
              subst (λ (a : Step). AfterFileByte (Unit {0}) (limits_of w) (bytes ++ byte ∷ []) a (moved (window.All after) s 1)) (sym c)
              (omega (arith, (i.held).count, length-append bytes (byte ∷ [])), t (limits_of w) i.items i.contents bytes (data_of {w = w} e is i))
      by (window.Row rows) e (window.Row after) g t p c =
          rows_one w (moved (window.Row after) s 1) rows after answer e refl (record { by_row = refl; strip = refl; keeping = refl }) refl byte (λ bytes k. result rows after given going t p c bytes k) (counts rows after given t p c g)
          (λ spare. has_memory given answer rows.left after.left (w.taken + 1) c) (λ spare. record { keeping = spare.keeping; scanned = spare.scanned; room = spare.room })
        where
          result : (rows after : RowWork) (given : Result Bool Fault) → (given ≡ Ok true → ⊥) → TakesByteInto scan (window.Row rows) byte given s (window.Row after) → PassesByte scan (window.Row rows) byte given s (window.Row after)
              → answer ≡ data_answer given rows.left after.left (w.taken + 1) → (bytes : List ℕ) → GoesByRow (limits_of w) bytes w rows
              → AfterRows (limits_of w) (bytes ++ byte ∷ []) answer (moved (window.Row after) s 1) after × StopsRows (limits_of w) (bytes ++ byte ∷ []) answer rows
          result rows after (Ok true) going t p c bytes k = absurd (going refl)
          result rows after (Ok false) going t p c bytes k = byte_goes bytes w scan rows (row_ready (limits_of w) bytes w scan is rows k) k.none byte s after (Ok false) answer room t p refl c
          result rows after (Err fault) going t p c bytes k = byte_stops bytes w scan rows (row_ready (limits_of w) bytes w scan is rows k) k.none byte s after (Err fault) fault answer (moved (window.Row after) s 1) t p refl c

          counts : (rows after : RowWork) (given : Result Bool Fault) → TakesByteInto scan (window.Row rows) byte given s (window.Row after) → PassesByte scan (window.Row rows) byte given s (window.Row after)
              → answer ≡ data_answer given rows.left after.left (w.taken + 1) → GoesByRow (limits_of w) front w rows → CountsRows answer rows after
          counts rows after (Ok over) t p c g = counts_rows scan s rows after _ answer (byte_rows front w scan rows (row_ready (limits_of w) front w scan is rows g) g.none byte s after (Ok over) p) c
          counts rows after (Err fault) t p c g = subst (λ (a : Step). CountsRows a rows after) (sym c) tt

-- by the result of the scan
pub data_came : {over : Bool} (given : Result Bool Fault) (answer : Step) (before left b l at : ℕ) → given ≡ Ok over → b ≡ before → l ≡ left → answer ≡ cond (completes_row b l) step.Row step.More → answer ≡ data_answer given before left at
data_came given answer before left b l at is eb el came =
    came ∙ ap (λ x. cond (completes_row x l) step.Row step.More) eb ∙ ap (λ x. cond (completes_row before x) step.Row step.More) el ∙ sym (ap (λ (g : Result Bool Fault). data_answer g before left at) is)

pub fault_came : (given : Result Bool Fault) (fault : Fault) (answer : Step) (before left at : ℕ) → given ≡ Err fault → answer ≡ step.Ended (stop.Fault (record { fault = fault; at = at })) → answer ≡ data_answer given before left at
fault_came given fault answer before left at is came = came ∙ sym (ap (λ (g : Result Bool Fault). data_answer g before left at) is)

-- AN ITEM

-- what memory is asked for
wants_of : (asks : Type 0) (limits : Limits) (bytes : List ℕ) (answer : Step) (w : FileState) → AfterFileByte asks limits bytes answer w → IfWants answer asks
wants_of asks limits bytes (step.Ended stop.NoMemory) w a = a
wants_of asks limits bytes other w a = tt

no_row_counts : (answer : Step) (rows : RowWork) → IsNoRow answer → CountsRows answer rows rows
no_row_counts step.More rows never = refl
no_row_counts step.Row rows never = absurd never
no_row_counts step.Whole rows never = refl
no_row_counts (step.Ended e) rows never = tt

-- with no current MCU row, which a byte completes, or the marker after a scan's data
module _ (w mid new : FileState) (byte : ℕ) (answer : Step) (none : rows_in w.window ≡ None) (still : rows_in mid.window ≡ None) (keeps : KeepsFile w mid) (head : mid.head ≡ w.head)
    (front : List ℕ) (stands : RepresentsFile (limits_of w) front w) where
  abbrev Comes : Result SegStep Stop → Type 0
  Comes came = (bytes : List ℕ) → RepresentsFile (limits_of w) bytes w → AfterFileStep w.scan (limits_of w) (bytes ++ byte ∷ []) came mid

  -- another item than a scan header
  passed : (came : Result SegStep Stop) → Comes came → PassesFirst (seen_of mid) came answer (seen_of new) → TakesOne (seen_of w) byte answer (seen_of new)
  passed came took t =
      subst (λ (x : FileSeen). TakesOne (seen_of w) byte answer x) (sym t.same)
      (first_taken (seen_of w) (seen_of mid) byte answer none still keeps.by_row
      (λ bytes k. asked (w.scan ≡ None) (Unit {0}) (λ h. tt) (limits_of w) (bytes ++ byte ∷ []) answer mid (t.after w.scan (limits_of w) (bytes ++ byte ∷ []) (took bytes k))) t.no head
      (wants_of (w.scan ≡ None) (limits_of w) (front ++ byte ∷ []) answer mid (t.after w.scan (limits_of w) (front ++ byte ∷ []) (took front stands))) keeps.keeping)

  -- a scan header
  headed_on : Comes (Ok item.Whole) → TakesFirstHead (seen_of mid) answer (seen_of new) → TakesOne (seen_of w) byte answer (seen_of new)
  headed_on took t = record {
    after = λ bytes g.
        (let all = bytes ++ byte ∷ [] in
        let h = header bytes (subst (λ (o : Option RowWork). StripGoes (limits_of w) bytes o w) none g) in
        subst (λ (l : Limits). AfterStrip l all answer (rows_in new.window) new) (limits_same h) (t.after all (subst (λ (l : Limits). HasCompleteHeader l all mid) (sym (limits_same h)) h)));
    stops = λ bytes rows is g. absurd (none_some (rows_in w.window) rows is none);
    rows = subst (λ (o : Option RowWork). CountsStrip answer o (rows_in new.window)) (sym none) tt;
    sparing = λ e s. t.sparing (ap (λ s. s.0) keeps.keeping ∙ e);
    keeping = t.keeping ∙ keeps.keeping;
    by_row = t.by_row ∙ keeps.by_row;
    head = stops_on answer (new.head ≡ mid.head) (new.head ≡ w.head) (λ e. e ∙ head) t.head;
    fresh = λ e. record {
      begins = t.begins;
      known = λ bytes k.
          (let all = bytes ++ byte ∷ [] in
          let h = header bytes k in
          subst (λ (l : Limits). KnowsRows l all 0 (rows_in new.window) new.strip) (limits_same h) (t.known all (subst (λ (l : Limits). HasCompleteHeader l all mid) (sym (limits_same h)) h)));
      no = t.no;
      stops = t.stops;
      plain = λ by. t.plain (keeps.by_row ∙ by);
      none = λ by bytes k nothing. none_headed _ _ _ _ _ _ k nothing (λ first. (let all = bytes ++ byte ∷ [] in
          let h = header bytes k in
          subst (λ (l : Limits). NoneAfter l all answer (rows_in new.window)) (limits_same h)
          (t.none (keeps.by_row ∙ by) (head ∙ first) bytes byte (subst (λ (l : Limits). HasNoRows l bytes) (sym (limits_same h)) nothing) (subst (λ (l : Limits). HasCompleteHeader l all mid) (sym (limits_same h)) h))));
      asks = wants answer (w.scan ≡ None) (took front stands).1;
    };
    current = λ some. absurd (clash (is_some (rows_in w.window)) some (ap is_some none));
  }
    where
      header : (bytes : List ℕ) → RepresentsFile (limits_of w) bytes w → HasCompleteHeader (limits_of w) (bytes ++ byte ∷ []) mid
      header bytes k = (took bytes k).0

      limits_same : {bytes : List ℕ} → HasCompleteHeader (limits_of w) bytes mid → limits_of mid ≡ limits_of w
      limits_same h = (h.at).bounded

  pub item_first : (came : Result SegStep Stop) → Comes came → TakesFirstItem (seen_of mid) came answer (seen_of new) → TakesOne (seen_of w) byte answer (seen_of new)
  item_first (Ok item.Whole) took t = headed_on took t
  item_first came took t = passed came took t

  pub header_first : Comes (Ok item.Whole) → (bytes : List ℕ) × HasCompleteHeader (limits_of mid) bytes mid
  header_first took =
      let h = (took front stands).0 in
      (front ++ byte ∷ [], subst (λ (l : Limits). HasCompleteHeader l (front ++ byte ∷ []) mid) (sym (h.at).bounded) h)

-- BETWEEN ITEMS: a byte that the items take
module _ (w : FileState) (none : w.scan ≡ None) (front : List ℕ) (go : StripGoes (limits_of w) front (rows_in w.window) w) (room : w.taken < (limits_of w).input)
    (byte : ℕ) (held : Items) (came : Result SegStep Stop) (took : TakesItemByte w.items byte came held) (counts : (reading_of held.segments).taken ≡ (reading_of w.items.segments).taken + 1) (kept : KeepsItems w.items held) where
  abbrev beside : FileState
  beside = record w { items = held; taken = w.taken + 1 }

  first_step : (bytes : List ℕ) → RepresentsFile (limits_of w) bytes w → AfterFileStep w.scan (limits_of w) (bytes ++ byte ∷ []) came beside
  first_step bytes k =
      let s = between_of (limits_of w) bytes w k (ap is_some none) in
      after_between (limits_of w) bytes (byte ∷ []) came w held (w.taken + 1) s (took bytes s.items s.blocks s.at) (counts ∙ ap (λ (n : ℕ). n + 1) (s.beside).same) refl (omega (arith, room))

  same_taken : {rows : RowWork} (bytes : List ℕ) → (b : IsAfter (limits_of w) bytes w rows) → (reading_of held.segments).taken ≡ w.taken + 1
  same_taken bytes b = counts ∙ ap (λ (n : ℕ). n + 1) ((b.between).beside).same

  pub between_requires : came ≡ Ok item.Whole → HasHeader (rows_in w.window) beside
  between_requires is = by w.window refl go
    where
      first : (o : Window) → w.window ≡ o → rows_in o ≡ None → RepresentsFile (limits_of w) front w → (bytes : List ℕ) × HasCompleteHeader (limits_of beside) bytes beside
      first o e never k =
          header_first w beside beside byte step.More (ap rows_in e ∙ never) (ap rows_in e ∙ never) (record { by_row = refl; strip = refl; keeping = kept.keeping }) refl front k
          (λ bytes k. subst (λ (s : Result SegStep Stop). AfterFileStep w.scan (limits_of w) (bytes ++ byte ∷ []) s beside) is (first_step bytes k))

      by : (o : Window) → w.window ≡ o → StripGoes (limits_of w) front (rows_in o) w → HasHeader (rows_in o) beside
      by window.None e k = first window.None e refl k
      by (window.All q) e k = first (window.All q) e refl k
      by (window.Row rows) e g =
          let b = after_of (limits_of w) front w rows g (ap is_some none) in
          let s = b.between in
          later_there (limits_of w) front w rows b byte held came (took front s.items s.blocks s.at) (same_taken front b) room is

  pub between_taken : (new : FileState) (answer : Step) → (rows_in w.window ≡ None → TakesFirstItem (seen_of beside) came answer (seen_of new)) → ((rows : RowWork) → rows_in w.window ≡ Some rows → PassesLater beside came answer new)
      → (NeedsNoMemory w → came ≡ Err stop.NoMemory → ⊥) → TakesOne (seen_of w) byte answer (seen_of new)
  between_taken new answer first later memory = by w.window refl go
    where
      keeps : KeepsFile w beside
      keeps = record { by_row = refl; strip = refl; keeping = kept.keeping }

      by : (o : Window) → w.window ≡ o → StripGoes (limits_of w) front (rows_in o) w → TakesOne (seen_of w) byte answer (seen_of new)
      by window.None e k = (let never = ap rows_in e in item_first w beside new byte answer never never keeps refl front k came first_step (first never))
      by (window.All q) e k = (let never = ap rows_in e in item_first w beside new byte answer never never keeps refl front k came first_step (first never))
      by (window.Row rows) e g =
          let t = later rows (ap rows_in e) in
          subst (λ (x : FileState). TakesOne (seen_of w) byte answer (seen_of x)) (sym t.same)
          (rows_one w beside rows rows answer e e keeps refl byte
          (λ bytes k. (let b = after_of (limits_of w) bytes w rows k (ap is_some none) in
          let s = b.between in
          (later_goes (limits_of w) bytes w rows b byte held came (took bytes s.items s.blocks s.at) (same_taken bytes b) room answer k t.passes, λ f shows. inl b.done)))
          (no_row_counts answer rows t.no) (λ spare. t.memory (memory spare))
          (λ spare. record { keeping = ap (λ s. s.0) kept.keeping ∙ spare.keeping; scanned = kept.scanned ∙ spare.scanned; room = kept.room spare.room }))

-- THE MARKER after a scan's data
module _ (w : FileState) (scan : InScan) (is : w.scan ≡ Some scan) (front : List ℕ) (go : StripGoes (limits_of w) front (rows_in w.window) w) (room : w.taken < (limits_of w).input)
    (byte : ℕ) (s : InScan) (o : Window) (given : Result Bool Fault) (over : given ≡ Ok true) (took : TakesByteInto scan w.window byte given s o) (passes : PassesByte scan w.window byte given s o) (left : scan_left s ≡ 0)
    (held : Items) (came : Result SegStep Stop) (marker : TakesMarker w.items byte came held) (counts : (reading_of held.segments).taken ≡ w.taken + 1) (kept : KeepsItems w.items held) where
  abbrev behind : FileState
  behind = record w { items = held; window = o; scan = None; taken = w.taken + 1 }

  -- it isn't a scan header, and asks for no memory
  pub marker_kind : IsOfMarker came
  marker_kind =
      let d = data_ready front w scan is go in
      let t = took d.whole d.shows (limits_of w, (d.inside).items, (d.inside).contents, front, d.coded) in
      let e = subst (λ (a : Result Bool Fault). AfterByte (limits_of w) (d.inside).items (d.inside).contents (front ++ byte ∷ []) byte a (waiting_in o) s t.0) over (t.2 (limits_of w) (d.inside).items (d.inside).contents front d.coded) in
      (marker (d.inside).items (d.inside).contents (front ++ byte ∷ []) t.0 ((d.inside).held).head e.1).2

  pub marker_requires : came ≡ Ok item.Whole → HasHeader (rows_in o) behind
  marker_requires e = absurd (let z = subst (λ (s : Result SegStep Stop). IsOfMarker s) e marker_kind in z)

  pub marker_taken : (new : FileState) (answer : Step) → (rows_in o ≡ None → TakesFirstItem (seen_of behind) came answer (seen_of new)) → ((rows : RowWork) → rows_in o ≡ Some rows → PassesLater behind came answer new)
      → TakesOne (seen_of w) byte answer (seen_of new)
  marker_taken new answer first later = by w.window refl o refl go took passes first later
    where
      by : (was : Window) → w.window ≡ was → (now : Window) → o ≡ now → StripGoes (limits_of w) front (rows_in was) w → TakesByteInto scan was byte given s now → PassesByte scan was byte given s now
          → (rows_in now ≡ None → TakesFirstItem (seen_of (record behind { window = now })) came answer (seen_of new)) → ((rows : RowWork) → rows_in now ≡ Some rows → PassesLater (record behind { window = now }) came answer new)
          → TakesOne (seen_of w) byte answer (seen_of new)
      by window.None e now is_now g t p first later = (let k = inside_of (limits_of w) front w g (ap is_some is) in absurd (let z : window.None ≡ window.All k.coefs = sym e ∙ k.has in cc))
      by (window.All q) e window.None is_now g t p first later = absurd (other_window (window.All q) window.None byte given s p (λ e. cc) (λ n t m z. z))
      by (window.All q) e (window.Row after) is_now g t p first later = absurd (other_window (window.All q) (window.Row after) byte given s p (λ e. cc) (λ n t m z. z))
      by (window.Row rows) e window.None is_now g t p first later = absurd (other_window (window.Row rows) window.None byte given s p (λ e. cc) (λ n t m z. z))
      by (window.Row rows) e (window.All after) is_now g t p first later = absurd (other_window (window.Row rows) (window.All after) byte given s p (λ e. cc) (λ n t m z. z))
      by (window.All q) e (window.All after) is_now g t p first later =
          let mid : FileState = record behind { window = window.All after } in
          let tb = whole_byte scan s q after byte given t in
          item_first w mid new byte answer (ap rows_in e) refl (record { by_row = refl; strip = refl; keeping = kept.keeping }) refl front g came
          (λ bytes k. (let i = inside_of (limits_of w) bytes w k (ap is_some is) in
          let ended = (subst (λ (a : Result Bool Fault). AfterByte (limits_of w) i.items i.contents (bytes ++ byte ∷ []) byte a [] s after) over (tb (limits_of w) i.items i.contents bytes (data_of {w = w} e is i))).1 in
          inside_done i (byte ∷ []) (w.taken + 1) refl (omega (arith, room)) after held came ended.framed (marker i.items i.contents (bytes ++ byte ∷ []) after (i.held).head ended) counts))
          (first refl)
      by (window.Row rows) e (window.Row after) is_now g t p first later =
          let mid : FileState = record behind { window = window.Row after } in
          let k = later after refl in
          let same : after ≡ rows = marker_same scan s rows after byte given p over in
          subst (λ (x : FileState). TakesOne (seen_of w) byte answer (seen_of x)) (sym k.same)
          (rows_one w mid rows after answer e refl (record { by_row = refl; strip = refl; keeping = kept.keeping }) refl byte
          (λ bytes x. byte_leaves bytes w scan rows (row_ready (limits_of w) bytes w scan is rows x) x.none byte s after given held came answer is room t p over marker counts left k.passes)
          (subst (λ (r : RowWork). CountsRows answer rows r) (sym same) (no_row_counts answer rows k.no)) (λ spare. k.memory (λ z. (let m = subst (λ (s : Result SegStep Stop). IsOfMarker s) z marker_kind in m)))
          (λ spare. record { keeping = ap (λ s. s.0) kept.keeping ∙ spare.keeping; scanned = kept.scanned ∙ spare.scanned; room = kept.room spare.room }))
