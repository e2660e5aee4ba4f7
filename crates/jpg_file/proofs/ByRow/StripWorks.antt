-- A file that is read MCU row by MCU row, and a piece of it.
use Rattle.std.proofs.Common.{◌≡◌, ◌⊎◌, ℕ, ◌+◌, ◌-◌, ◌<◌, ◌≤◌, true, List, [], ◌∷◌, ◌++◌, length, take, drop, get_or, refl, sym, ap, ◌∙◌, subst, arith, inl, inr, Some, None, Option, is_some, append-nil, length-append, length-drop, length-take-le, take_all, Err, Result}
use Rattle.jpg_spec.specs.Markers.{Segment, has_scan}
use Rattle.jpg_spec.specs.RowsParsed.{BeginsScanOfAll}
use Rattle.jpg_spec.specs.declared.fault.FaultAt.{FaultAt}
use Rattle.jpg_spec.specs.declared.fault.Fault.TheVariants.{InputTooLong}
use Rattle.jpg_spec.specs.declared.frame.Copying.TheVariants as copying
use Rattle.jpg_spec.specs.declared.frame.Limits.{Limits}
use Rattle.jpg_spec.proofs.Basics.Common.{clash, some_once, joined, whole_front}
use Rattle.jpg_base.specs.declared.stop.Stop.TheVariants as stop
use Rattle.jpg_file.specs.Read.File.{IsStop, RepresentsFile, keeping_of, limits_of, AfterFileByte, HasCompleteHeader, KeepsBytes, MakesPicture, TakesFileHead, TakesSome, NeedsNoMemory, settings_of}
use Rattle.jpg_file.specs.Read.FirstHeader.{IsFirstHeaderOf, HasHead}
use Rattle.jpg_file.specs.Read.ReadFile.{AfterPiece, GivenBefore, KnowsAfter, TakesBytes, TakesPiece, EndsBetweenItems, HasLastByte, KeepsWork, RowsGo, RowsGive, RowsOpen, TakesFirstHead, TakesOne, TakesFirstItem}
use Rattle.jpg_file.specs.Read.Strips.{FaultsResumed, RowsFault, LacksRow, RowsSoFar, KnowsRows, RowsKnown, HasNoRows, NoRowsIn, NoneAfter, AfterStrip, CountsStrip, SparesRows, RepresentsRows, StopsRows, StripGoes, StripRun, RepresentsStrip, Resumed, TakesRest, FindsNone, AfterScanBegins, CountsRowsOfScan, GoesByRow, RowsRun, seen_of, PassesLater}
use Rattle.jpg_file.specs.Read.InData.{unfinished}
use Rattle.jpg_file.specs.Read.Step.{IfStops, IfWants, IsNoRow, HasMemory}
use Rattle.jpg_file.specs.declared.read.file.FileState.{FileState}
use Rattle.jpg_file.specs.declared.read.first_header.Head.{Head}
use Rattle.jpg_file.specs.declared.read.rows.RowWork.{RowWork}
use Rattle.jpg_file.specs.declared.read.strip_head.StripHead.{StripHead}
use Rattle.jpg_file.specs.Read.Strips.{FileSeen}
use Rattle.jpg_file.specs.declared.read.step.Step.{Step}
use Rattle.jpg_file.specs.declared.read.step.Step.TheVariants as step
use Rattle.jpg_file.proofs.ByRow.RowsGiven.{goes_completes, begun_on}
use Rattle.jpg_file.proofs.Files.FileSteps.{between_of, head_is, counted, front_is, front_of, head_kept, one_more, piece_long, stands_file, stop_longer, within, asked, inside_of, front_stands, one_taken}
use Rattle.jpg_file.proofs.Files.Leaving.{ends_between}
use Rattle.jpg_file.proofs.Headers.InForce.{has_longer}
use Rattle.jpg_file.proofs.ByRow.StripBegin.{no_rows, none_after, none_begun, none_found, none_passed, none_plain, none_seen}
use Rattle.jpg_file.proofs.ByRow.StripBytes.{open_head, open_limits, strip_limits, strip_read, strip_passed}
use Rattle.jpg_base.specs.declared.stop.Stop.{Stop}
use Rattle.jpg_markers.specs.declared.segments.SegStep.{SegStep}
use Rattle.jpg_spec.specs.Items.{segments_of}
use Rattle.jpg_file.specs.Read.Passing.{PassesFront}
use Rattle.jpg_file.proofs.Scans.ScanBytes.{none_some}
use Rattle.jpg_file.specs.Read.Window.{rows_in}
use Rattle.jpg_file.specs.declared.read.scan.InScan.{InScan}
use Rattle.jpg_file.specs.declared.read.window.Window.{Window}
use Rattle.jpg_file.specs.declared.read.window.Window.TheVariants as window

goes_on : (limits : Limits) (bytes : List ℕ) (rows : Option RowWork) (w : FileState) → AfterStrip limits bytes step.More rows w → StripGoes limits bytes rows w
goes_on limits bytes None w a = a
goes_on limits bytes (Some rows) w a = a

given_some : (limits : Limits) (bytes : List ℕ) (rows : Option RowWork) (w : FileState) → AfterStrip limits bytes step.Row rows w → is_some rows ≡ true
given_some limits bytes None w a = absurd a
given_some limits bytes (Some rows) w a = refl

stop_shown : (limits : Limits) (bytes : List ℕ) (rows : Option RowWork) (w : FileState) (f : FaultAt) → AfterStrip limits bytes (step.Ended (stop.Fault f)) rows w → IsStop limits bytes f
stop_shown limits bytes None w f a = a
stop_shown limits bytes (Some rows) w f a = a

none_or_some : (rows : Option RowWork) → (rows ≡ None) ⊎ (is_some rows ≡ true)
none_or_some None = inl refl
none_or_some (Some rows) = inr refl

some_stays : (answer : Step) (rows after : Option RowWork) → CountsStrip answer rows after → is_some rows ≡ true → is_some after ≡ true
some_stays answer None after k some = absurd cc
some_stays answer (Some rows) None k some = absurd k
some_stays answer (Some rows) (Some after) k some = refl

-- WHAT IS KEPT

keeps_same : (w : FileSeen) → KeepsWork w w
keeps_same w = record { by_row = refl; plain = λ e p. e; some = λ e. e; strip = λ e. refl; keeping = refl; sparing = λ e k. k }

keeps_then : (a b c : FileSeen) → KeepsWork a b → KeepsWork b c → KeepsWork a c
keeps_then a b c k l = record {
  by_row = l.by_row ∙ k.by_row;
  plain = λ e p. l.plain (k.plain e p) (k.by_row ∙ p);
  some = λ e. l.some (k.some e);
  strip = λ e. l.strip (k.some e) ∙ k.strip e;
  keeping = l.keeping ∙ k.keeping;
  sparing = λ e s. l.sparing (ap (λ s. s.0) k.keeping ∙ e) (k.sparing e s);
}

-- with some more bytes
keeps_some : {run : List ℕ} {n : ℕ} {answer : Step} (work new : FileSeen) → TakesBytes work run n answer new → KeepsWork work new
keeps_some {answer = answer} work new t = record { by_row = t.by_row; plain = λ none. (t.fresh none).plain; some = some_stays answer work.rows new.rows t.rows; strip = λ some. (t.current some).strip; keeping = t.keeping; sparing = t.sparing }

-- if there is no current MCU row, there was none
pub none_first : {old new : FileSeen} → KeepsWork old new → new.rows ≡ None → old.rows ≡ None
none_first {old = old} {new = new} k none = by (none_or_some old.rows)
  where
    by : (old.rows ≡ None) ⊎ (is_some old.rows ≡ true) → old.rows ≡ None
    by (inl e) = e
    by (inr e) = absurd (clash (is_some new.rows) (k.some e) (ap is_some none))

-- there is memory
wants_none : {run : List ℕ} {n : ℕ} {old work new : FileSeen} (answer : Step) → KeepsWork old work → TakesBytes work run n answer new → keeping_of old.file ≡ copying.None → SparesRows old.rows old.file → IfWants answer (new.rows ≡ None)
wants_none step.More k t none spares = tt
wants_none step.Row k t none spares = tt
wants_none step.Whole k t none spares = tt
wants_none (step.Ended (stop.Fault f)) k t none spares = tt
wants_none {work = work} {new = new} (step.Ended stop.NoMemory) k t none spares = by (none_or_some work.rows)
  where
    by : (work.rows ≡ None) ⊎ (is_some work.rows ≡ true) → new.rows ≡ None
    by (inl e) = (t.fresh e).stops
    by (inr e) = absurd ((t.current e).memory (k.sparing none spares))

-- WHAT IS KNOWN remains known, and MCU rows are counted
known_with : {limits : Limits} {bytes : List ℕ} {m : ℕ} {strip : Option StripHead} (more : List ℕ) (n : ℕ) (rows after : RowWork) → m + unfinished rows ≡ n + unfinished after → RowsKnown limits bytes m rows strip → RowsKnown limits (bytes ++ more) n after strip
known_with {limits = limits} {bytes = bytes} more n rows after counts k =
    let all = k.count in
    record { before = k.before; contents = k.contents; begins = begun_on limits bytes more k.before k.contents k.begins; told = k.told; count = omega (arith, counts, all) }

module _ (limits : Limits) (bytes : List ℕ) (m : ℕ) (new : FileSeen) (more : List ℕ) where
  -- if there was a current one
  known_on : (answer : Step) (rows : RowWork) (o : Option RowWork) → CountsStrip answer (Some rows) o → RowsKnown limits bytes m rows new.strip → ((f : FaultAt) → answer ≡ step.Ended (stop.Fault f) → RowsFault limits (bytes ++ more) m new o)
      → KnowsAfter limits (bytes ++ more) m answer new o
  known_on answer rows None counts k fault = absurd counts
  known_on step.More rows (Some after) counts k fault = known_with more m rows after (let c : unfinished after ≡ unfinished rows = counts in omega (arith, c)) k
  known_on step.Row rows (Some after) counts k fault = known_with more (m + 1) rows after (let c : unfinished rows ≡ unfinished after + 1 = counts in omega (arith, c)) k
  known_on step.Whole rows (Some after) counts k fault = known_with more m rows after (let c : unfinished after ≡ unfinished rows = counts in omega (arith, c)) k
  known_on (step.Ended (stop.Fault f)) rows (Some after) counts k fault = fault f refl
  known_on (step.Ended stop.NoMemory) rows (Some after) counts k fault = tt

  -- if there was none
  none_known : (answer : Step) (o : Option RowWork) → IsNoRow answer → KnowsRows limits (bytes ++ more) m o new.strip → ((f : FaultAt) → answer ≡ step.Ended (stop.Fault f) → RowsFault limits (bytes ++ more) m new o)
      → KnowsAfter limits (bytes ++ more) m answer new o
  none_known step.More o never k fault = k
  none_known step.Row o never k fault = absurd never
  none_known step.Whole o never k fault = k
  none_known (step.Ended (stop.Fault f)) o never k fault = fault f refl
  none_known (step.Ended stop.NoMemory) o never k fault = tt

known_some : {run : List ℕ} {n : ℕ} {answer : Step} (limits : Limits) (bytes : List ℕ) (m : ℕ) (work new : FileSeen) → StripGoes limits bytes work.rows work.file → (work.rows ≡ None → m ≡ 0) → KnowsRows limits bytes m work.rows work.strip
    → TakesBytes work run n answer new → ((f : FaultAt) → answer ≡ step.Ended (stop.Fault f) → RowsFault limits (bytes ++ take n run) m new new.rows) → KnowsAfter limits (bytes ++ take n run) m answer new new.rows
known_some {run = run} {n = n} {answer = answer} limits bytes m work new go zero k t fault = by work.rows refl k go t.rows
  where
    by : (o : Option RowWork) → work.rows ≡ o → KnowsRows limits bytes m o work.strip → StripGoes limits bytes o work.file → CountsStrip answer o new.rows → KnowsAfter limits (bytes ++ take n run) m answer new new.rows
    by None is k g c =
        none_known limits bytes m new (take n run) answer new.rows (t.fresh is).no
        (subst (λ (j : ℕ). KnowsRows limits (bytes ++ take n run) j new.rows new.strip) (sym (zero is))
        (subst (λ (l : Limits). RepresentsFile l bytes work.file → KnowsRows l (bytes ++ take n run) 0 new.rows new.strip) (strip_limits limits bytes None work.file g) ((t.fresh is).known bytes) g)) fault
    by (Some rows) is k g c = known_on limits bytes m new (take n run) answer rows new.rows c (subst (λ (s : Option StripHead). RowsKnown limits bytes m rows s) (sym (t.current (ap is_some is)).strip) k) fault

-- NONE IS BEING READ: if an MCU row is, nothing is claimed
some_after : (limits : Limits) (bytes : List ℕ) (answer : Step) (rows : RowWork) → NoneAfter limits bytes answer (Some rows)
some_after limits bytes (step.Ended stop.NoMemory) rows = tt
some_after limits bytes other rows = tt

none_still : {run : List ℕ} {n : ℕ} {answer : Step} (limits : Limits) (bytes : List ℕ) (work new : FileSeen) → StripGoes limits bytes work.rows work.file → NoRowsIn limits bytes work.rows → work.by_row ≡ true → TakesBytes work run n answer new → NoneAfter limits (bytes ++ take n run) answer new.rows
none_still {run = run} {n = n} {answer = answer} limits bytes work new go none row t = by work.rows refl none go t.rows
  where
    later : (rows : RowWork) (o : Option RowWork) → CountsStrip answer (Some rows) o → NoneAfter limits (bytes ++ take n run) answer o
    later rows None c = absurd c
    later rows (Some x) c = some_after limits (bytes ++ take n run) answer x

    by : (o : Option RowWork) → work.rows ≡ o → NoRowsIn limits bytes o → StripGoes limits bytes o work.file → CountsStrip answer o new.rows → NoneAfter limits (bytes ++ take n run) answer new.rows
    by None is k g c =
        subst (λ (l : Limits). RepresentsFile l bytes work.file → HasNoRows l bytes → NoneAfter l (bytes ++ take n run) answer new.rows) (strip_limits limits bytes None work.file g) ((t.fresh is).none row bytes) g k
    by (Some rows) is k g c = later rows new.rows c

-- if none is after a piece
pub no_rows_in : (limits : Limits) (bytes : List ℕ) (rows : Option RowWork) → NoRowsIn limits bytes rows → rows ≡ None → HasNoRows limits bytes
no_rows_in limits bytes rows k none = (let x = subst (λ (o : Option RowWork). NoRowsIn limits bytes o) none k in x)

-- the first scan header remains the first one
head_later : (limits : Limits) (bytes more : List ℕ) (before : List Segment) (contents : List ℕ) (o : Option Head) → BeginsScanOfAll limits bytes before contents → IsFirstHeaderOf limits bytes o → IsFirstHeaderOf limits (bytes ++ more) o
head_later limits bytes more before contents None b none = absurd (no_rows limits bytes none before contents b)
head_later limits bytes more before contents (Some h) b k = has_longer limits bytes more (bytes ++ more) before (Some h) refl k

-- it is the first one of the bytes where more are taken
go_head : (limits : Limits) (bytes : List ℕ) (rows : Option RowWork) (w : FileState) → StripGoes limits bytes rows w → IsFirstHeaderOf limits bytes w.head
go_head limits bytes rows w go = (let v = strip_read limits bytes rows w go in head_is limits bytes (record w { window = v.0 }) v.1)

-- AT A FAULT after further bytes
fault_known : (limits : Limits) (bytes more : List ℕ) (m : ℕ) (work new : FileSeen) → KeepsWork work new → KnowsRows limits bytes m work.rows work.strip → (work.rows ≡ None → new.rows ≡ None)
    → (is_some work.rows ≡ true → IsFirstHeaderOf limits bytes new.file.head) → ((mid : RowWork) → work.rows ≡ Some mid → RowsSoFar limits (bytes ++ more) mid) → RowsFault limits (bytes ++ more) m new new.rows
fault_known limits bytes more m work new keeps k none head at = by work.rows refl k
  where
    began : (mid : RowWork) (o : Option RowWork) → is_some o ≡ true → RowsKnown limits bytes m mid new.strip → IsFirstHeaderOf limits bytes new.file.head → RowsSoFar limits (bytes ++ more) mid → RowsFault limits (bytes ++ more) m new o
    began mid None some k head fault = absurd cc
    began mid (Some after) some k head fault = record { mid = mid; known = known_with more m mid mid (omega arith) k; rows = fault; head = head_later limits bytes more k.before k.contents new.file.head k.begins head }

    by : (o : Option RowWork) → work.rows ≡ o → KnowsRows limits bytes m o work.strip → RowsFault limits (bytes ++ more) m new new.rows
    by None is k = subst (λ (o : Option RowWork). RowsFault limits (bytes ++ more) m new o) (sym (none is)) tt
    by (Some mid) is k =
        let some = ap is_some is in
        began mid new.rows (keeps.some some) (subst (λ (s : Option StripHead). RowsKnown limits bytes m mid s) (sym (keeps.strip some)) k) (head some) (at mid is)

-- SOME BYTES of a piece: the state before the last of them, and the result of that one
run_in : {limits : Limits} {bytes piece : List ℕ} {done n : ℕ} {answer : Step} {old rows : Option RowWork} {new : FileState} → done ≤ length piece → StripRun limits (bytes ++ take done piece) (drop done piece) n answer old rows new
    → StripRun limits bytes piece (done + n) answer old rows new
run_in {limits = limits} {bytes = bytes} {piece = piece} {done = done} {n = n} {answer = answer} {rows = rows} {new = new} few r = record {
  mid = r.mid;
  early = done + r.early;
  count = (let c = r.count in omega (arith, c));
  within = within;
  before = subst (λ l. RepresentsFile limits l r.mid) (front_is bytes piece done r.early) r.before;
  room = r.room;
  head = r.head;
  asks = r.asks;
  current = λ o is.
      (let c = r.current o is in
      (subst (λ l. RowsSoFar limits l o) (front_is bytes piece done r.early) c.0, subst (λ l. StopsRows limits l answer o) (front_is bytes piece done n) c.1));
  last =
      subst (λ l. AfterStrip limits l answer rows new)
      (sym (one_more (bytes ++ take done piece) (drop done piece) r.early r.within) ∙ front_is bytes piece done (r.early + 1) ∙ ap (λ k. bytes ++ take k piece) next ∙ one_more bytes piece (done + r.early) within) r.last;
}
  where
    within : done + r.early < length piece
    within = (let w = r.within in omega (arith, w, few, length-drop done piece))

    next : done + (r.early + 1) ≡ done + r.early + 1
    next = omega arith

module _ {limits : Limits} {bytes piece : List ℕ} {used : ℕ} {answer : Step} {old rows : Option RowWork} {new : FileState} (r : StripRun limits bytes piece used answer old rows new) where
  run_is : bytes ++ take used piece ≡ (bytes ++ take r.early piece) ++ get_or piece r.early 0 ∷ []
  run_is = ap (λ m. bytes ++ take m piece) r.count ∙ one_more bytes piece r.early r.within

  run_came : AfterStrip limits (bytes ++ take used piece) answer rows new
  run_came = subst (λ (x : List ℕ). AfterStrip limits x answer rows new) (sym run_is) r.last

  -- the bytes before the last one had no fault
  run_byte : HasLastByte limits (bytes ++ take used piece)
  run_byte =
      let c = counted limits (bytes ++ take r.early piece) r.mid r.before in
      let room = r.room in
      record { front = bytes ++ take r.early piece; byte = get_or piece r.early 0; cut = run_is; stands = stands_file limits (bytes ++ take r.early piece) r.mid r.before; short = omega (arith, c, room) }

-- its answer, by what the last of them needs
run_answered : {limits : Limits} {bytes piece : List ℕ} {used : ℕ} {old rows : Option RowWork} {new : FileState} (answer : Step) → (old ≡ None → IsNoRow answer) → CountsStrip answer old rows → (rows ≡ None → old ≡ None)
    → StripRun limits bytes piece used answer old rows new → AfterPiece limits bytes piece used answer rows new
run_answered {limits = limits} {bytes = bytes} {piece = piece} {used = used} {rows = rows} {new = new} step.More never counts none r =
    record { goes = goes_on limits (bytes ++ take used piece) rows new (run_came r); last = λ some. run_byte r }
run_answered {limits = limits} {bytes = bytes} {piece = piece} {used = used} {old = old} {rows = rows} step.Row never counts none r = (record { row = run_came r; last = run_byte r }, λ early is. lacks early is old refl rows counts)
  where
    -- the bytes before the last one complete no further row
    lacks : (early : ℕ) → used ≡ early + 1 → (o : Option RowWork) → old ≡ o → (a : Option RowWork) → CountsStrip step.Row o a → LacksRow limits (bytes ++ take early piece) a
    lacks early is None none a c = absurd (never none)
    lacks early is (Some mid) has None c = absurd c
    lacks early is (Some mid) has (Some after) c =
        let count = r.count in
        let same : r.early ≡ early = omega (arith, is, count) in
        (mid, c, subst (λ k. RowsSoFar limits (bytes ++ take k piece) mid) same ((r.current mid has).0))
run_answered step.Whole never counts none r = (run_came r, (let count = r.count in omega (arith, count)))
run_answered {limits = limits} {bytes = bytes} {piece = piece} {used = used} {rows = rows} {new = new} (step.Ended (stop.Fault f)) never counts none r =
    let before = bytes ++ take r.early piece in
    let byte = get_or piece r.early 0 in
    let cut = joined bytes piece used ∙ ap (λ l. l ++ drop used piece) (run_is r) in
    let few = counted limits before r.mid r.before in
    let room = r.room in
    let shown = stop_shown limits (before ++ byte ∷ []) rows new f r.last in
    let at = shown.0 in
    let one = length-append before (byte ∷ []) in
    let low = r.within in
    let count = r.count in (
      stop_longer limits before (drop used piece) (bytes ++ piece) byte f cut (stands_file limits before r.mid r.before) (omega (arith, few, room)) shown,
      omega (arith, at, one, count, length-append bytes (take r.early piece), length-take-le r.early piece (omega (arith, low))),
      inr (length before, omega (arith, at, one), head_kept limits bytes piece r.early r.mid new r.before r.head, subst (λ l. IsStop limits l f) (sym (front_of (before ++ byte ∷ []) (drop used piece) (bytes ++ piece) f.at at cut)) shown),
    )
run_answered {limits = limits} {bytes = bytes} {piece = piece} {new = new} (step.Ended stop.NoMemory) never counts none r =
    let all = bytes ++ take r.early piece in
    let kept = head_kept limits bytes piece r.early r.mid new r.before r.head in
    let size = length-append bytes (take r.early piece) in
    let low = r.within in
    let is : take (length all) (bytes ++ piece) ≡ all = ap (take (length all)) (joined bytes piece r.early) ∙ whole_front all (drop r.early piece) in (
      (length all, omega (arith, size), kept),
      -- without a current row memory is asked for between items
      λ no_row. record {
        n = length all;
        low = omega (arith, size);
        within = omega (arith, size, length-take-le r.early piece (omega (arith, low)), length-append bytes piece, low);
        between = subst (λ l. EndsBetweenItems limits l) (sym is) (ends_between limits all r.mid (between_of limits all r.mid r.before (ap is_some (r.asks (none no_row)))));
        kept = kept;
      },
    )

-- THE FIRST BYTES of a piece, after which it goes on
module _ {limits : Limits} {piece : List ℕ} {done : ℕ} {old work : FileSeen} (s : TakesPiece limits old piece done step.More work) where
  pub work_limits : ((bytes : List ℕ) × RowsOpen limits bytes old.rows old.file) → limits_of work.file ≡ limits
  work_limits o = strip_limits limits (o.0 ++ take done piece) work.rows work.file (s.after o.0 o.1).goes

  -- so many bytes were taken
  pub work_taken : (bytes : List ℕ) → RowsOpen limits bytes old.rows old.file → (work.file.taken ≡ length bytes + done) × (length bytes + done ≤ limits.input)
  work_taken bytes h =
      let front = bytes ++ take done piece in
      let v = strip_read limits front work.rows work.file (s.after bytes h).goes in
      let few = s.few in
      let file : FileState = record work.file { window = v.0 } in
      let size = length-append bytes (take done piece) in
      let long = length-take-le done piece few in
      (omega (arith, counted limits front file v.1, size, long), omega (arith, within limits front file v.1, size, long))

  -- at the most bytes that may be taken
  pub piece_full : limits.input ≤ work.file.taken → TakesPiece limits old piece done (step.Ended (stop.Fault (record { fault = InputTooLong; at = limits.input }))) work
  piece_full many = record {
    few = s.few;
    after = λ bytes h. (let v = strip_read _ _ _ _ (s.after bytes h).goes in
        let a = piece_long limits bytes piece done (record work.file { window = v.0 }) many v.1 in
        (a.0, (let size = work_taken bytes h in omega (arith, many, size.0, size.1)), a.1));
    keeps = s.keeps;
    memory = λ none spares. tt;
    known = λ bytes m g.
        (let front = bytes ++ take done piece in
        let go = (s.after bytes g.stands).goes in
        subst (λ (x : List ℕ). RowsFault limits x m work work.rows) (append-nil front)
        (fault_known limits front [] m work work (keeps_same work) (s.known bytes m g) (λ none. none) (λ some. go_head limits front work.rows work.file go)
        (λ mid is. subst (λ (x : List ℕ). RowsSoFar limits x mid) (sym (append-nil front)) (goes_completes limits front work.file mid (subst (λ (o : Option RowWork). StripGoes limits front o work.file) is go)))));
    none = s.none;
  }

  -- with some more bytes
  pub after_some : {n : ℕ} {new : FileSeen} (answer : Step) → ((bytes : List ℕ) × RowsOpen limits bytes old.rows old.file) → TakesBytes work (take (length piece - done) (drop done piece)) n answer new → TakesPiece limits old piece (done + n) answer new
  after_some {n = n} {new = new} answer o taken = record {
    few = (let r = run o.0 o.1 in let c = r.count in let w = r.within in omega (arith, c, w));
    after = λ bytes h. run_answered answer (λ none. (t.fresh none).no) t.rows (none_first kept) (run bytes h);
    keeps = keeps_then old work new s.keeps kept;
    memory = wants_none answer s.keeps t;
    known = λ bytes m g.
        subst (λ l. KnowsAfter limits l m answer new new.rows) (front_is bytes piece done n)
        (known_some limits (bytes ++ take done piece) m work new (s.after bytes g.stands).goes (λ none. g.none (none_first s.keeps none)) (s.known bytes m g) t (λ f is. faulted bytes m g f is));
    none = λ bytes h row no.
        subst (λ l. NoneAfter limits l answer new.rows) (front_is bytes piece done n)
        (none_still limits (bytes ++ take done piece) work new (s.after bytes h).goes (s.none bytes h row no) (s.keeps.by_row ∙ row) t);
  }
    where
      t : TakesBytes work (drop done piece) n answer new
      t = subst (λ l. TakesBytes work l n answer new) (take_all (length piece - done) (drop done piece) (omega (arith, length-drop done piece))) taken

      kept : KeepsWork work new
      kept = keeps_some work new t

      part : (bytes : List ℕ) → RowsOpen limits bytes old.rows old.file → StripRun limits (bytes ++ take done piece) (drop done piece) n answer work.rows new.rows new.file
      part bytes h =
          let front = bytes ++ take done piece in
          let go = (s.after bytes h).goes in
          subst (λ (l : Limits). StripGoes l front work.rows work.file → StripRun l front (drop done piece) n answer work.rows new.rows new.file) (strip_limits limits front work.rows work.file go) (t.after front) go

      run : (bytes : List ℕ) → RowsOpen limits bytes old.rows old.file → StripRun limits bytes piece (done + n) answer work.rows new.rows new.file
      run bytes h = run_in s.few (part bytes h)

      faulted : (bytes : List ℕ) (m : ℕ) → GivenBefore limits bytes m old → (f : FaultAt) → answer ≡ step.Ended (stop.Fault f) → RowsFault limits ((bytes ++ take done piece) ++ take n (drop done piece)) m new new.rows
      faulted bytes m g f is =
          let front = bytes ++ take done piece in
          let go = (s.after bytes g.stands).goes in
          fault_known limits front (take n (drop done piece)) m work new kept (s.known bytes m g)
          (λ none. (let k = subst (λ (a : Step). IfStops a (new.rows ≡ None)) is (t.fresh none).stops in k))
          (λ some. subst (λ o. IsFirstHeaderOf limits front o) (sym (t.current some).head) (go_head limits front work.rows work.file go))
          (λ mid has. ((part bytes g.stands).current mid has).1 f is)

-- THE BITS that waited: what they leave, and their result

none_stays : (a b : Option RowWork) → is_some b ≡ is_some a → a ≡ None → b ≡ None
none_stays a None e none = refl
none_stays a (Some rows) e none = absurd (clash (is_some a) (sym e) (ap is_some none))

module _ {answer : Step} {old new : FileSeen} (r : Resumed old answer new) where
  pub resumed : (limits : Limits) (bytes : List ℕ) → RowsOpen limits bytes old.rows old.file → AfterStrip limits bytes answer new.rows new.file
  resumed limits bytes h =
      subst (λ (l : Limits). RepresentsStrip l bytes old.rows old.file → AfterStrip l bytes answer new.rows new.file) (open_limits limits bytes old.rows old.file h.stands) (r.after bytes) h.stands

  resumed_keeps : KeepsWork old new
  resumed_keeps = record { by_row = r.by_row; plain = λ e p. none_stays old.rows new.rows r.stays e; some = λ e. r.stays ∙ e; strip = λ e. r.strip; keeping = r.keeping; sparing = λ e s. r.sparing s }

-- THEIR RESULT, as that of no bytes of a piece
pub resumed_piece : (limits : Limits) (piece : List ℕ) (answer : Step) (old new : FileSeen) → Resumed old answer new → TakesPiece limits old piece 0 answer new
resumed_piece limits piece answer old new r = record {
  few = omega arith;
  after = λ bytes h. after bytes h answer r;
  keeps = resumed_keeps r;
  memory = λ none spares. spare answer r.memory;
  known = λ bytes m g. known bytes m g old.rows refl g.known g.none;
  none = λ bytes h row no. nothing bytes no old.rows refl;
}
  where
    spare : (answer : Step) → HasMemory answer → IfWants answer (new.rows ≡ None)
    spare step.More has = tt
    spare step.Row has = tt
    spare step.Whole has = tt
    spare (step.Ended (stop.Fault f)) has = tt
    spare (step.Ended stop.NoMemory) has = absurd has

    none_is : old.rows ≡ None → (answer ≡ step.More) × (new ≡ old)
    none_is none = r.plain (ap is_some none)

    -- with no bits nothing changes
    known : (bytes : List ℕ) (m : ℕ) → GivenBefore limits bytes m old → (o : Option RowWork) → old.rows ≡ o → KnowsRows limits bytes m o old.strip → (o ≡ None → m ≡ 0) → KnowsAfter limits (bytes ++ []) m answer new new.rows
    known bytes m g None is k zero =
        let same = none_is is in
        subst (λ (a : Step). KnowsAfter limits (bytes ++ []) m a new new.rows) (sym same.0)
        (subst (λ (w : FileSeen). KnowsRows limits (bytes ++ []) m w.rows w.strip) (sym same.1) (subst (λ (o : Option RowWork). KnowsRows limits (bytes ++ []) m o old.strip) (sym is) tt))
    known bytes m g (Some rows) is k zero =
        known_on limits bytes m new [] answer rows new.rows (subst (λ (o : Option RowWork). CountsStrip answer o new.rows) is r.rows) (subst (λ (s : Option StripHead). RowsKnown limits bytes m rows s) (sym r.strip) k)
        (λ f shows. fault_known limits bytes [] m old new (resumed_keeps r) g.known (λ none. absurd (let z : (let a : Step = step.Ended (stop.Fault f) in a) ≡ step.More = sym shows ∙ (none_is none).0 in cc))
        (λ some. subst (λ o. IsFirstHeaderOf limits bytes o) (sym r.head) (open_head limits bytes old.rows old.file g.stands.stands))
        (λ mid has. subst (λ l. RowsSoFar limits l mid) (sym (append-nil bytes))
        (subst (λ (l : Limits). RepresentsRows l bytes old.file mid → RowsSoFar l bytes mid) (open_limits limits bytes old.rows old.file g.stands.stands) (r.faults mid f bytes has shows) (subst (λ (o : Option RowWork). RepresentsStrip limits bytes o old.file) has g.stands.stands))))

    nothing : (bytes : List ℕ) → NoRowsIn limits bytes old.rows → (o : Option RowWork) → old.rows ≡ o → NoneAfter limits (bytes ++ []) answer new.rows
    nothing bytes free None is =
        let same = none_is is in
        subst (λ (a : Step). NoneAfter limits (bytes ++ []) a new.rows) (sym same.0)
        (subst (λ (w : FileSeen). NoRowsIn limits (bytes ++ []) w.rows) (sym same.1) (subst (λ l. NoRowsIn limits l old.rows) (sym (append-nil bytes)) free))
    nothing bytes free (Some rows) is = by new.rows (r.stays ∙ ap is_some is)
      where
        by : (o : Option RowWork) → is_some o ≡ true → NoneAfter limits (bytes ++ []) answer o
        by None some = absurd cc
        by (Some after) some = some_after limits (bytes ++ []) answer after

    after : (bytes : List ℕ) → RowsOpen limits bytes old.rows old.file → (answer : Step) → Resumed old answer new → AfterPiece limits bytes piece 0 answer new.rows new.file
    after bytes h step.More r =
        subst (λ l. RowsGo limits l new.rows new.file) (sym (append-nil bytes)) (record { goes = goes_on limits bytes new.rows new.file (resumed r limits bytes h); last = λ some. h.last (sym r.stays ∙ some) })
    after bytes h step.Row r =
        let a = resumed r limits bytes h in
        (subst (λ l. RowsGive limits l new.rows new.file) (sym (append-nil bytes)) (record { row = a; last = h.last (sym r.stays ∙ given_some limits bytes new.rows new.file a) }), λ early is. absurd (omega (arith, is)))
    after bytes h step.Whole r = absurd r.goes
    after bytes h (step.Ended stop.NoMemory) r = absurd r.goes
    after bytes h (step.Ended (stop.Fault f)) r =
        let some : is_some old.rows ≡ true = by (none_or_some old.rows) in
        let l = h.last some in
        let shown = stop_shown limits bytes new.rows new.file f (resumed r limits bytes h) in (
          stop_longer limits l.front piece (bytes ++ piece) l.byte f (ap (λ x. x ++ piece) l.cut) l.stands l.short (subst (λ x. IsStop limits x f) l.cut shown),
          omega (arith, shown.0),
          inl (subst (λ x. IsFirstHeaderOf limits x new.file.head) (sym (front_of bytes piece (bytes ++ piece) f.at shown.0 refl)) (subst (λ o. IsFirstHeaderOf limits bytes o) (sym r.head) (open_head limits bytes old.rows old.file h.stands))),
        )
      where
        by : (old.rows ≡ None) ⊎ (is_some old.rows ≡ true) → is_some old.rows ≡ true
        by (inl none) = absurd (let z : (let a : Step = step.Ended (stop.Fault f) in a) ≡ step.More = (r.plain (ap is_some none)).0 in cc)
        by (inr some) = some

-- THE STATE, by its current MCU row
pub resumed_rows : (old : FileSeen) (given : RowWork) (answer : Step) → old.rows ≡ Some given → (new : FileState) (after : RowWork) → TakesRest old.file given answer new after → FaultsResumed old answer
resumed_rows old given answer has new after took = λ rows f bytes is shows g.
    let same : rows ≡ given = some_once rows given (sym is ∙ has) in
    subst (λ (w : RowWork). RepresentsRows (limits_of old.file) bytes old.file w → RowsSoFar (limits_of old.file) bytes w) (sym same) (λ k. (took bytes k).1 f shows) g

-- A file that is read MCU row by MCU row, in its other states: before its first scan, and where its scans are read in
-- one go.

-- the result of a file that is read in one go
plain_after : (asks : Type 0) (limits : Limits) (bytes : List ℕ) (rows : Option RowWork) (w : FileState) (answer : Step) → rows ≡ None → AfterFileByte asks limits bytes answer w → AfterStrip limits bytes answer rows w
plain_after asks limits bytes rows w answer none a = subst (λ (r : Option RowWork). AfterStrip limits bytes answer r w) (sym none) (asked asks (Unit {0}) (λ h. tt) limits bytes answer w a)

-- a scan that doesn't begin
begin_stops : (limits : Limits) (bytes : List ℕ) (rows : Option RowWork) (w : FileState) (e : Stop) → rows ≡ None → AfterScanBegins limits bytes (Err e) w → AfterStrip limits bytes (step.Ended e) rows w
begin_stops limits bytes rows w e none a = subst (λ (r : Option RowWork). AfterStrip limits bytes (step.Ended e) r w) (sym none) (by e a)
  where
    by : (e : Stop) → AfterScanBegins limits bytes (Err e) w → AfterFileByte (Unit {0}) limits bytes (step.Ended e) w
    by (stop.Fault f) a = a
    by stop.NoMemory a = tt

-- SOME BYTES

pub stops : (result : Step) (holds : Type 0) → holds → IfStops result holds
stops (step.Ended e) holds h = h
stops other holds h = tt

pub wants : (result : Step) (holds : Type 0) → holds → IfWants result holds
wants (step.Ended stop.NoMemory) holds h = h
wants other holds h = tt

pub wants_nothing : (result : Step) (holds : Type 0) → HasMemory result → IfWants result holds
wants_nothing (step.Ended stop.NoMemory) holds h = absurd h
wants_nothing other holds h = tt

-- memory is asked for between items
asks_between : (result : Step) (w mid : FileState) (limits : Limits) (bytes : List ℕ) (new : FileState) → IfWants result (mid.scan ≡ w.scan) → AfterFileByte (KeepsBytes w) limits bytes result new → IfWants result (mid.scan ≡ None)
asks_between (step.Ended stop.NoMemory) w mid limits bytes new same none = same ∙ none
asks_between other w mid limits bytes new same after = tt

-- A BYTE after which there is no current row, nor was before it
pub first_taken : (old new : FileSeen) (byte : ℕ) (answer : Step) → old.rows ≡ None → new.rows ≡ None → new.by_row ≡ old.by_row
    → ((bytes : List ℕ) → RepresentsFile (limits_of old.file) bytes old.file → AfterFileByte (Unit {0}) (limits_of old.file) (bytes ++ byte ∷ []) answer new.file) → IsNoRow answer → new.file.head ≡ old.file.head
    → IfWants answer (old.file.scan ≡ None) → settings_of new.file ≡ settings_of old.file → TakesOne old byte answer new
first_taken old new byte answer none still by_row after never head asks keeping = record {
  after = λ bytes g.
      (let k = subst (λ (o : Option RowWork). StripGoes (limits_of old.file) bytes o old.file) none g in
      plain_after (Unit {0}) (limits_of old.file) (bytes ++ byte ∷ []) new.rows new.file answer still (after bytes k));
  stops = λ bytes rows is g. absurd (none_some old.rows rows is none);
  rows = subst (λ (o : Option RowWork). CountsStrip answer o new.rows) (sym none) tt;
  sparing = λ e s. subst (λ (o : Option RowWork). SparesRows o new.file) (sym still) tt;
  keeping = keeping;
  by_row = by_row;
  head = stops answer (new.file.head ≡ old.file.head) head;
  fresh = λ e. record {
    begins = subst (λ (o : Option RowWork). CountsRowsOfScan o new.file) (sym still) tt;
    known = λ bytes k. subst (λ (o : Option RowWork). KnowsRows (limits_of old.file) (bytes ++ byte ∷ []) 0 o new.strip) (sym still) tt;
    no = never;
    stops = stops answer (new.rows ≡ None) still;
    plain = λ by. still;
    none = λ by bytes k nothing. none_plain (Unit {0}) (limits_of old.file) bytes byte old.file new.file answer new.rows k head (after bytes k) nothing;
    asks = asks;
  };
  current = λ some. absurd (clash (is_some old.rows) some (ap is_some none));
}

-- a scan header that is taken as in a file that is read in one go
pub head_plain : (old : FileSeen) (answer : Step) (w : FileState) → rows_in w.window ≡ None → w.by_row ≡ old.by_row → TakesFileHead old.file answer w → IsNoRow answer → IfStops answer (w.head ≡ old.file.head) → settings_of w ≡ settings_of old.file
    → (old.by_row ≡ true → old.file.head ≡ None → FindsNone old.file None) → TakesFirstHead old answer (seen_of w)
head_plain old answer w none by_row took never head keeping finds = record {
  after = λ bytes h. plain_after (MakesPicture old.file) (limits_of old.file) bytes (rows_in w.window) w answer none (took bytes h);
  begins = subst (λ (o : Option RowWork). CountsRowsOfScan o w) (sym none) tt;
  known = λ bytes h. subst (λ (o : Option RowWork). KnowsRows (limits_of old.file) bytes 0 o w.strip) (sym none) tt;
  no = never;
  stops = stops answer (rows_in w.window ≡ None) none;
  plain = λ by. none;
  none = λ by first front byte nothing h. none_after (limits_of old.file) (front ++ byte ∷ []) answer (rows_in w.window) (none_found (limits_of old.file) front byte old.file h first (finds by first) nothing);
  sparing = λ e. subst (λ (o : Option RowWork). SparesRows o w) (sym none) tt;
  head = head;
  keeping = keeping;
  by_row = by_row;
}

-- a scan that doesn't begin
pub begin_fails : (old : FileSeen) (e : Stop) (w : FileState) → rows_in w.window ≡ None → w.by_row ≡ old.by_row → ((bytes : List ℕ) → HasCompleteHeader (limits_of old.file) bytes old.file → AfterScanBegins (limits_of old.file) bytes (Err e) w) → w.head ≡ old.file.head → settings_of w ≡ settings_of old.file
    → TakesFirstHead old (step.Ended e) (seen_of w)
begin_fails old e w none by_row after head keeping = record {
  after = λ bytes h. begin_stops (limits_of old.file) bytes (rows_in w.window) w e none (after bytes h);
  begins = subst (λ (o : Option RowWork). CountsRowsOfScan o w) (sym none) tt;
  known = λ bytes h. subst (λ (o : Option RowWork). KnowsRows (limits_of old.file) bytes 0 o w.strip) (sym none) tt;
  no = tt;
  stops = none;
  plain = λ by. none;
  none = λ by first front byte nothing h. none_begun (limits_of old.file) front byte w e (rows_in w.window) (after (front ++ byte ∷ []) h) nothing;
  sparing = λ e. subst (λ (o : Option RowWork). SparesRows o w) (sym none) tt;
  head = head;
  keeping = keeping;
  by_row = by_row;
}

-- no current MCU row
pub not_row : (o : Window) → ((rows : RowWork) → o ≡ window.Row rows → ⊥) → rows_in o ≡ None
not_row window.None not = refl
not_row (window.All coefs) not = refl
not_row (window.Row rows) not = absurd (not rows refl)

-- the result of an item that is this one
pub first_as : {came one : Result SegStep Stop} (old new : FileSeen) (answer : Step) → came ≡ one → TakesFirstItem old one answer new → TakesFirstItem old came answer new
first_as old new answer is k = subst (λ (s : Result SegStep Stop). TakesFirstItem old s answer new) (sym is) k

pub later_as : {came one : Result SegStep Stop} {old new : FileState} {answer : Step} → came ≡ one → PassesLater old one answer new → PassesLater old came answer new
later_as {old = old} {new = new} {answer = answer} is k = subst (λ (s : Result SegStep Stop). PassesLater old s answer new) (sym is) k

-- EOI asks for no memory
pub ends_here : (before : Option InScan) (limits : Limits) (bytes : List ℕ) (answer : Step) (w : FileState) → AfterFileByte ⊥ limits bytes answer w → AfterFileByte (before ≡ None) limits bytes answer w
ends_here before limits bytes answer w a = asked ⊥ (before ≡ None) (λ h. absurd h) limits bytes answer w a

pub stops_on : (answer : Step) (was is : Type 0) → (was → is) → IfStops answer was → IfStops answer is
stops_on (step.Ended e) was is on h = on h
stops_on other was is on h = tt

-- inside the data of a scan there is a first scan header
pub headed : (limits : Limits) (bytes : List ℕ) (w : FileState) → RepresentsFile limits bytes w → is_some w.scan ≡ true → is_some w.head ≡ true
headed limits bytes w k some = (let s = inside_of limits bytes w k some in by ((0xda, s.contents) ∷ segments_of s.items) w.head refl (s.held).first_head)
  where
    by : (before : List Segment) (o : Option Head) → has_scan before ≡ true → HasHead limits bytes before o → is_some o ≡ true
    by before None scanned h = absurd (clash (has_scan before) scanned h)
    by before (Some head) scanned h = refl

-- of a file that is read in one go
some_plain : (w : FileState) (rows now : Option RowWork) (run : List ℕ) (n : ℕ) (answer : Step) (new : FileState) → rows ≡ None → now ≡ None → TakesSome w run n answer new → (bytes : List ℕ) → StripGoes (limits_of w) bytes rows w
    → StripRun (limits_of w) bytes run n answer rows now new
some_plain w rows now run n answer new none still t bytes g =
    let limits = limits_of w in
    let k = subst (λ (r : Option RowWork). StripGoes limits bytes r w) none g in
    let front = bytes ++ take t.early run in
    let before = t.before limits bytes k refl in
    record {
      mid = t.mid;
      early = t.early;
      count = t.count;
      within = t.within;
      before = before;
      room = t.room limits bytes k refl;
      head = t.head;
      asks = λ none. asks_between answer w t.mid limits (front ++ get_or run t.early 0 ∷ []) new t.scan (t.last limits front before refl);
      current = λ current is. absurd (clash (is_some rows) (ap is_some is) (ap is_some none));
      last = plain_after (KeepsBytes w) limits (front ++ get_or run t.early 0 ∷ []) now new answer still (t.last limits front before refl);
    }

pub plain_bytes : (old new : FileSeen) (run : List ℕ) (n : ℕ) (answer : Step) → old.rows ≡ None → new.rows ≡ None → new.by_row ≡ old.by_row → is_some old.file.head ≡ true → TakesSome old.file run n answer new.file → IsNoRow answer
    → settings_of new.file ≡ settings_of old.file → TakesBytes old run n answer new
plain_bytes old new run n answer none still by_row headed t never keeping = record {
  after = some_plain old.file old.rows new.rows run n answer new.file none still t;
  rows = subst (λ (o : Option RowWork). CountsStrip answer o new.rows) (sym none) tt;
  sparing = λ e s. subst (λ (o : Option RowWork). SparesRows o new.file) (sym still) tt;
  keeping = keeping;
  by_row = by_row;
  fresh = λ e. record {
    begins = subst (λ (o : Option RowWork). CountsRowsOfScan o new.file) (sym still) tt;
    known = λ bytes k. subst (λ (o : Option RowWork). KnowsRows (limits_of old.file) (bytes ++ take n run) 0 o new.strip) (sym still) tt;
    no = never;
    stops = stops answer (new.rows ≡ None) still;
    plain = λ by. still;
    none = λ by bytes k nothing. none_after (limits_of old.file) (bytes ++ take n run) answer new.rows (none_seen (limits_of old.file) bytes (take n run) old.file k headed nothing);
    some = λ by. t;
  };
  current = λ some. absurd (clash (is_some old.rows) some (ap is_some none));
}

-- of one that is read MCU row by MCU row
pub some_rows : (limits : Limits) (bytes run : List ℕ) (n : ℕ) (result : Step) (old : Option RowWork) (rows : RowWork) (new : FileState) (after : RowWork) → old ≡ Some rows → RowsRun limits bytes run n result rows new after → StripRun limits bytes run n result old (Some after) new
some_rows limits bytes run n result old rows new after is t = record {
  mid = t.mid;
  early = t.early;
  count = t.count;
  within = t.within;
  before = t.before;
  room = t.room;
  head = stops result (new.head ≡ (t.mid).head) (sym t.head);
  asks = λ none. absurd (clash (is_some old) (ap is_some is) (ap is_some none));
  current = λ current has. subst (λ (r : RowWork). RowsSoFar limits (bytes ++ take t.early run) r × StopsRows limits (bytes ++ take n run) result r) (some_once rows current (sym is ∙ has)) (t.rows_before, t.stops);
  last = t.last;
}

-- what memory is asked for is known
asked_for : (holds : Type 0) (limits : Limits) (bytes : List ℕ) (answer : Step) (w : FileState) → IfWants answer holds → AfterFileByte (Unit {0}) limits bytes answer w → AfterFileByte holds limits bytes answer w
asked_for holds limits bytes (step.Ended stop.NoMemory) w h a = h
asked_for holds limits bytes other w h a = a

spares_on : (rows : Option RowWork) (w mid : FileState) → (NeedsNoMemory w → NeedsNoMemory mid) → SparesRows rows w → SparesRows rows mid
spares_on None w mid on s = tt
spares_on (Some rows) w mid on s = on s

-- THE FIRST BYTES that cause no event, and a byte
module _ (old new : FileSeen) (mid : FileState) (run : List ℕ) (n : ℕ) (answer : Step) (p : PassesFront old.file run n mid) (took : TakesOne (record old { file = mid }) (get_or run n 0) answer new) where
  abbrev limits : Limits
  limits = limits_of old.file

  abbrev byte : ℕ
  byte = get_or run n 0

  kept : mid.scan ≡ old.file.scan
  kept = ap (λ (x : FileState). x.scan) p.is

  head : mid.head ≡ old.file.head
  head = ap (λ (x : FileState). x.head) p.is

  -- the file after the first of them, in one go or not
  goes : (front : List ℕ) → StripGoes limits front old.rows old.file → StripGoes limits (front ++ take n run) old.rows mid
  goes front g = strip_passed limits front run n old.rows old.file mid g refl p

  plain : (front : List ℕ) → RepresentsFile limits front old.file → RepresentsFile (limits_of mid) (front ++ take n run) mid
  plain front k = subst (λ (l : Limits). RepresentsFile l (front ++ take n run) mid) (sym p.limits) (front_stands p limits front k)

  -- its result, with the current MCU row before it or none
  byte_after : (front : List ℕ) → StripGoes limits front old.rows old.file → StripRun limits front run (n + 1) answer old.rows new.rows new.file
  byte_after front g =
      let all = front ++ take n run in
      let k = goes front g in
      let whole = strip_read limits all old.rows mid k in
      record {
        mid = record mid { window = whole.0 };
        early = n;
        count = refl;
        within = p.within;
        before = whole.1;
        room = p.room;
        head = took.head;
        asks = λ none. (took.fresh none).asks;
        current = λ rows is.
            (let g = subst (λ (o : Option RowWork). StripGoes limits all o mid) is k in (
              goes_completes limits all mid rows g,
              subst (λ (l : List ℕ). StopsRows limits l answer rows) (sym (one_more front run n p.within))
                  (subst (λ (l : Limits). StopsRows l (all ++ byte ∷ []) answer rows) p.limits (took.stops all rows is (subst (λ (l : Limits). GoesByRow l all mid rows) (sym p.limits) g))),
            ));
        last = subst (λ (l : Limits). AfterStrip l (all ++ byte ∷ []) answer new.rows new.file) p.limits (took.after all (subst (λ (l : Limits). StripGoes l all old.rows mid) (sym p.limits) k));
      }

  -- the same of a file that isn't read by MCU rows
  byte_plain : (none : old.rows ≡ None) → new.rows ≡ None → (bytes : List ℕ) → RepresentsFile (limits_of mid) bytes mid → AfterFileByte (KeepsBytes mid) (limits_of mid) (bytes ++ byte ∷ []) answer new.file
  byte_plain none after bytes k =
      asked_for (KeepsBytes mid) (limits_of mid) (bytes ++ byte ∷ []) answer new.file (took.fresh none).asks
      (subst (λ (o : Option RowWork). AfterStrip (limits_of mid) (bytes ++ byte ∷ []) answer o new.file) after (took.after bytes (subst (λ (o : Option RowWork). StripGoes (limits_of mid) bytes o mid) (sym none) k)))

  pub one_byte : TakesBytes old run (n + 1) answer new
  one_byte = record {
    after = byte_after;
    rows = took.rows;
    sparing = λ e s. took.sparing (ap (λ s. s.0) p.keeping ∙ e) (spares_on old.rows old.file mid p.sparing s);
    keeping = took.keeping ∙ p.keeping;
    by_row = took.by_row;
    fresh = λ none.
        (let f = took.fresh none in record {
          begins = f.begins;
          known = λ front k.
              subst (λ (l : List ℕ). KnowsRows limits l 0 new.rows new.strip) (sym (one_more front run n p.within))
              (subst (λ (l : Limits). KnowsRows l ((front ++ take n run) ++ byte ∷ []) 0 new.rows new.strip) p.limits (f.known (front ++ take n run) (plain front k)));
          no = f.no;
          stops = f.stops;
          plain = f.plain;
          none = λ by front k nothing.
              subst (λ (l : List ℕ). NoneAfter limits l answer new.rows) (sym (one_more front run n p.within))
              (subst (λ (l : Limits). NoneAfter l ((front ++ take n run) ++ byte ∷ []) answer new.rows) p.limits
              (f.none by (front ++ take n run) (plain front k)
              (subst (λ (l : Limits). HasNoRows l (front ++ take n run)) (sym p.limits) (none_passed limits front (take n run) old.file mid old.file.head refl head k (front_stands p limits front k) nothing))));
          some = λ by. one_taken old.file mid run n answer new.file p (byte_plain none (f.plain by)) took.head;
        });
    current = λ some.
        (let t = took.current some in
        record { memory = λ s. t.memory (spares_on old.rows old.file mid p.sparing s); strip = t.strip; head = t.head ∙ head });
  }
