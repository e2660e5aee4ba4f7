-- A reader that was fed, and how many scans' data have ended.
use Rattle.std.proofs.Common.{◌≡◌, ℕ, suc, cond, ◌-◌, ◌≤◌, ◌==◌, Bool, true, false, List, [], ◌∷◌, ◌++◌, refl, sym, ap, ◌∙◌, subst, arith, inl, inr, ◌⊎◌, ◌<◌, length, take, drop, Some, None, Ok, Err, is_some, replicate, Option, Result, append_assoc, length-append, take-append-drop, take_all, ◌+◌, append-nil, length-drop}
use Rattle.jpg_spec.specs.Items.{Item, segment, scan, segments_of, ends_in_scan}
use Rattle.jpg_spec.specs.Markers.{Segment}
use Rattle.jpg_spec.specs.ScanReading.{LeadingMarker}
use Rattle.jpg_spec.specs.FirstFault.{AfterItems, InsideScan, IsFirstFault, Reveals}
use Rattle.jpg_spec.specs.UnfinishedFile.{UnfinishedFile}
use Rattle.jpg_spec.specs.declared.frame.Limits.{Limits}
use Rattle.jpg_spec.proofs.Basics.Common.{clash, heads}
use Rattle.jpg_spec.proofs.Files.FilesOnce.{after_more, begins_more, filled_not_next, inside_after, inside_marker, next_head, next_in, next_marker, scan_last}
use Rattle.jpg_spec.proofs.Files.ItemsOnce.{HasNext, Meets, meet}
use Rattle.jpg_spec.proofs.Files.TailsOnce.{goes_not_head}
use Rattle.jpg_spec.proofs.Headers.HeadersOnce.{after_front}
use Rattle.jpg_spec.proofs.Segments.MarkersOnce.{no_head}
use Rattle.jpg_markers.specs.Reading.{reading_of}
use Rattle.jpg_file.specs.Read.File.{IsBetweenFileItems, IsInsideScanOfFile, RepresentsFile, scans_ended, EndsFile, with_picture, TakesSome, limits_of}
use Rattle.jpg_file.specs.Read.Items.{AtPlace}
use Rattle.jpg_file.specs.Read.SegmentState.{scan_headers, HasBegunEach}
use Rattle.jpg_file.specs.Read.ScanPieces.{ScansEnded, AfterFeedScan, FeedsScan, NoScanEnds}
use Rattle.jpg_file.specs.declared.read.file.FileState.{FileState}
use Rattle.jpg_file.proofs.Files.ItemBytes.{part_after}
use Rattle.std.specs.Result.{result_err}
use Rattle.std.proofs.lemmas.List.{take-append-le}
use Rattle.std.proofs.lemmas.Bool.{cases_lt}
use Rattle.jpg_spec.specs.declared.fault.FaultAt.{FaultAt}
use Rattle.jpg_spec.proofs.Files.FileLaws.{shown_not_standing}
use Rattle.jpg_base.specs.declared.stop.Fed.{Fed}
use Rattle.jpg_base.specs.declared.stop.Fed.TheVariants as whole
use Rattle.jpg_base.specs.declared.stop.Stop.{Stop}
use Rattle.jpg_base.specs.declared.stop.Stop.TheVariants as stop
use Rattle.jpg_file.specs.Read.ReadFile.{CountsOn, ReadsPiece, ReadsUpTo, TakesPiece, AfterFeed, AsksForMemory, FeedsFile, HasRead, IsDone, IsStopOf, ReaderState, RowsGive, RowsGo, RowsOpen, CountsBefore, TakesBytes, IsPlain, IsReading, ReadsInto, ReadsOne, after_piece, is_done, with_work, work_of}
use Rattle.jpg_file.specs.Read.Strips.{AfterStrip, StripGoes, RepresentsStrip}
use Rattle.jpg_file.specs.declared.read.pieces.FedRow.{FedRow}
use Rattle.jpg_file.specs.declared.read.pieces.FedRow.TheVariants as fed
use Rattle.jpg_file.specs.declared.read.rows.RowWork.{RowWork}
use Rattle.jpg_file.specs.Read.Strips.{FileSeen}
use Rattle.jpg_file.specs.declared.read.step.Step.TheVariants as step
use Rattle.jpg_file.proofs.Files.FileSteps.{head_is, head_left, counted, file_means, stands_file, front_is, limits_are}
use Rattle.jpg_file.proofs.Files.Leaving.{ends_each, filled_begun, filled_item, whole_leaves}
use Rattle.jpg_spec.proofs.Files.ScanSteps.{inside}
use Rattle.jpg_file.specs.declared.read.pieces.FedScan.{FedScan}
use Rattle.jpg_file.specs.declared.read.pieces.FedScan.TheVariants as came
use Rattle.jpg_file.specs.declared.read.step.Step.{Step}
use Rattle.jpg_spec.specs.declared.frame.Copying.{Copying}

-- How many scans' data have ended in the bytes of a file, by its state.

between_ended : (limits : Limits) (bytes : List ℕ) (w : FileState) → IsBetweenFileItems limits bytes w → ScansEnded limits bytes (scans_ended w)
between_ended limits bytes w s = by (s.at).at
  where
    all : scans_ended w ≡ scan_headers (segments_of s.items)
    all = ap (λ t. w.begun.scans - cond t 1 0) (ap is_some (s.beside).none) ∙ (let count = ((s.beside).begun).count in omega (arith, count))

    by : AtPlace limits bytes (s.at).sent s.items s.blocks → ScansEnded limits bytes (scans_ended w)
    by (inl start) = inl (subst (λ l. (l ≡ []) ⊎ (l ≡ 255 ∷ [])) (sym start.same) start.short, all ∙ ap (λ l. scan_headers (segments_of l)) start.no_items)
    by (inr (tail, at)) =
        let b = at.beside in
        let part = part_after limits bytes (s.at).sent s.items s.blocks (reading_of (w.items).segments) tail (reading_of (w.items).segments).phase (s.at).bounded at ((s.at).stands).1 in
        inr (inl (record { items = s.items; tail = replicate b.fill 255 ++ tail; behind = b.behind; part = filled_item b.fill s.items tail part; begun = filled_begun b.fill s.items tail b.plain; count = all }))

inside_ended : (limits : Limits) (bytes : List ℕ) (w : FileState) → IsInsideScanOfFile limits bytes w → ScansEnded limits bytes (scans_ended w)
inside_ended limits bytes w s =
    let d = s.coded in
    let count = ((s.held).begun).count in
    let all : scans_ended w ≡ scan_headers (segments_of s.items) = ap (λ t. w.begun.scans - cond t 1 0) (ap is_some s.inside) ∙ omega (arith, count) in
    inr (inr (record { fill = d.fill; inside = inside limits bytes d.place (replicate d.fill 255) d.at; count = all ∙ ap (λ l. scan_headers (segments_of l)) (sym d.of.0) }))

pub state_ended : (limits : Limits) (bytes : List ℕ) (w : FileState) → RepresentsFile limits bytes w → ScansEnded limits bytes (scans_ended w)
state_ended limits bytes w (inl s) = between_ended limits bytes w s
state_ended limits bytes w (inr s) = inside_ended limits bytes w s

-- MORE BYTES, at least as many scans

one_header : (s : Segment) (before : List Segment) → scan_headers before ≤ scan_headers (s ∷ before)
one_header s before = by (s.0 == 0xda)
  where
    by : (b : Bool) → scan_headers before ≤ cond b (suc (scan_headers before)) (scan_headers before)
    by true = omega arith
    by false = omega arith

item_headers : (x : Item) (items : List Item) → scan_headers (segments_of items) ≤ scan_headers (segments_of (x ∷ items))
item_headers (segment code contents) items = one_header (code, contents) (segments_of items)
item_headers (scan contents intervals) items = omega arith

next_headers : (later : List Item) (first : Item) (items : List Item) → scan_headers (segments_of items) ≤ scan_headers (segments_of (later ++ first ∷ items))
next_headers [] first items = item_headers first items
next_headers (x ∷ later) first items =
    let more = next_headers later first items in
    let one = item_headers x (later ++ first ∷ items) in
    omega (arith, more, one)

-- Complete items, the data of each scan among them ended, and what follows them.
pub record Complete (limits : Limits) (bytes : List ℕ) (items : List Item) (rest : List ℕ) : Type 0 where
  pub behind : AfterItems limits bytes items rest
  pub begun : (ends_in_scan items ≡ false) ⊎ LeadingMarker rest

complete_more : (limits : Limits) (a x b : List ℕ) (items : List Item) (rest : List ℕ) → a ++ x ≡ b → Complete limits a items rest → Complete limits b items (rest ++ x)
complete_more limits a x b items rest e k = record { behind = after_more limits a x b items rest e k.behind; begun = by k.begun }
  where
    by : (ends_in_scan items ≡ false) ⊎ LeadingMarker rest → (ends_in_scan items ≡ false) ⊎ LeadingMarker (rest ++ x)
    by (inl h) = inl h
    by (inr m) = inr (begins_more rest x m)

pub inside_complete : (limits : Limits) (bytes tail : List ℕ) (i : InsideScan limits bytes tail) → Complete limits bytes i.items (i.head ++ (i.text ++ tail))
inside_complete limits bytes tail i = record { behind = inside_after limits bytes tail i; begun = inr (inside_marker limits bytes tail i (i.text ++ tail)) }

no_start : (limits : Limits) (bytes : List ℕ) (items : List Item) (rest : List ℕ) → AfterItems limits bytes items rest → (bytes ≡ []) ⊎ (bytes ≡ 255 ∷ []) → ⊥
no_start limits bytes items rest w s = by s
  where
    start : bytes ≡ 255 ∷ 0xd8 ∷ ((after_front items w.front w.spelled).0 ++ rest)
    start = w.cut ∙ ap (λ l. l ++ rest) (after_front items w.front w.spelled).1

    by : (bytes ≡ []) ⊎ (bytes ≡ 255 ∷ []) → ⊥
    by (inl e) = no_head 255 (0xd8 ∷ ((after_front items w.front w.spelled).0 ++ rest)) (sym e ∙ start)
    by (inr e) = no_head 0xd8 ((after_front items w.front w.spelled).0 ++ rest) (heads 255 255 [] (0xd8 ∷ ((after_front items w.front w.spelled).0 ++ rest)) (sym e ∙ start)).1

-- the data of the scans among complete items have ended
pub complete_ended : (limits : Limits) (bytes : List ℕ) (items : List Item) (rest : List ℕ) (m : ℕ) → Complete limits bytes items rest → ScansEnded limits bytes m → scan_headers (segments_of items) ≤ m
complete_ended limits bytes items rest m w (inl s) = absurd (no_start limits bytes items rest w.behind s.0)
complete_ended limits bytes items rest m w (inr (inl l)) = by (meet limits bytes items l.items rest l.tail w.behind l.behind)
  where
    by : Meets limits items rest l.items l.tail → scan_headers (segments_of items) ≤ m
    by (inl s) = (let same = ap (λ l. scan_headers (segments_of l)) s.0 in let count = l.count in omega (arith, same, count))
    by (inr (inl g)) =
        let more = next_headers g.later g.first items in
        let same = ap (λ l. scan_headers (segments_of l)) g.joined in
        let count = l.count in
        omega (arith, more, same, count)
    by (inr (inr g)) = absurd (goes_not_head limits l.items l.tail l.part (next_head limits l.items items l.tail rest g))
complete_ended limits bytes items rest m w (inr (inr l)) = by (meet limits bytes items i.items rest u w.behind (inside_after limits bytes fill i))
  where
    fill : List ℕ
    fill = replicate l.fill 255

    i : InsideScan limits bytes (replicate l.fill 255)
    i = l.inside

    u : List ℕ
    u = i.head ++ (i.text ++ fill)

    leads : (g : HasNext limits i.items u items rest) → g.later ≡ [] → (ends_in_scan items ≡ false) ⊎ LeadingMarker rest → LeadingMarker rest
    leads g none (inl h) =
        let n = next_in limits bytes fill i items rest g in
        absurd (clash (ends_in_scan items) (scan_last g.first i.items items g.later i.contents n.intervals n.is_scan g.joined none) h)
    leads g none (inr k) = k

    by : Meets limits items rest i.items u → scan_headers (segments_of items) ≤ m
    by (inl s) = (let same = ap (λ l. scan_headers (segments_of l)) s.0 in let count = l.count in omega (arith, same, count))
    by (inr (inl g)) =
        let more = next_headers g.later g.first items in
        let same = ap (λ l. scan_headers (segments_of l)) g.joined in
        let count = l.count in
        omega (arith, more, same, count)
    by (inr (inr g)) =
        absurd (filled_not_next limits bytes fill i l.fill items rest refl g (next_marker items g.later g.text rest g.others (λ none. leads g none w.begun)))

pub scans_more : (limits : Limits) (a x b : List ℕ) (n m : ℕ) → a ++ x ≡ b → ScansEnded limits a n → ScansEnded limits b m → n ≤ m
scans_more limits a x b n m e (inl s) k = (let none = s.1 in omega (arith, none))
scans_more limits a x b n m e (inr (inl l)) k =
    let few = complete_ended limits b l.items (l.tail ++ x) m (complete_more limits a x b l.items l.tail e (record { behind = l.behind; begun = l.begun })) k in
    let count = l.count in
    omega (arith, few, count)
scans_more limits a x b n m e (inr (inr l)) k =
    let i = l.inside in
    let u = i.head ++ (i.text ++ replicate l.fill 255) in
    let few = complete_ended limits b i.items (u ++ x) m (complete_more limits a x b i.items u e (inside_complete limits a (replicate l.fill 255) i)) k in
    let count = l.count in
    omega (arith, few, count)

-- What a reader keeps, and what it answers to a piece if it reads no MCU rows.

go_open : (limits : Limits) (bytes : List ℕ) (rows : Option RowWork) (w : FileState) → RowsGo limits bytes rows w → RowsOpen limits bytes rows w
go_open limits bytes rows w g = record { stands = by rows g.goes; last = g.last }
  where
    by : (rows : Option RowWork) → StripGoes limits bytes rows w → RepresentsStrip limits bytes rows w
    by None k = k
    by (Some r) k = k.stands

give_open : (limits : Limits) (bytes : List ℕ) (rows : Option RowWork) (w : FileState) → RowsGive limits bytes rows w → RowsOpen limits bytes rows w
give_open limits bytes rows w g = record { stands = by rows g.row; last = λ some. g.last }
  where
    by : (rows : Option RowWork) → AfterStrip limits bytes step.Row rows w → RepresentsStrip limits bytes rows w
    by None k = absurd k
    by (Some r) k = record { whole = k.whole; row = k.row; at = inl k.inside }

pub ends_plain : (limits : Limits) (bytes : List ℕ) (rows : Option RowWork) (w : FileState) → rows ≡ None → AfterStrip limits bytes step.Whole rows w → EndsFile limits bytes w
ends_plain limits bytes rows w none a = (let k = subst (λ (o : Option RowWork). AfterStrip limits bytes step.Whole o w) none a in k)

whole_each : (limits : Limits) (bytes : List ℕ) (rows : Option RowWork) (w : FileState) → AfterStrip limits bytes step.Whole rows w → HasBegunEach w.begun.progress
whole_each limits bytes None w a = ends_each limits bytes w a
whole_each limits bytes (Some rows) w a = ends_each limits bytes (with_picture w a.whole) a.ends

-- A PIECE of a reader that hasn't stopped
pub keeps_piece : {scans : Bool} {r : ReaderState} {piece : List ℕ} {new : FileSeen} (answer : Result FedRow Stop) → IsReading r → r.done ≡ false → r.stop ≡ None → ReadsPiece scans r.limits (work_of r) piece answer new
    → IsReading (after_piece answer (with_work r new))
keeps_piece {scans = scans} {r = r} {piece = piece} {new = new} answer k undone skip t = record {
  limited = k.limited;
  in_rows = λ by. t.keeps.by_row ∙ k.in_rows by;
  keeping = λ by. ap (λ s. s.0) t.keeps.keeping ∙ k.keeping by;
  sparing = λ by. t.keeps.sparing (k.keeping by) (k.sparing by);
  «open» = λ none going. opened answer t.read none going;
  ended = λ done none. (let w = whole answer t.read done in whole_leaves r.limits w.0 new.file (ends_plain r.limits w.0 new.rows new.file none w.1));
  begun = λ done. (let w = whole answer t.read done in whole_each r.limits w.0 new.rows new.file w.1);
}
  where
    o : (bytes : List ℕ) × RowsOpen r.limits bytes r.rows r.file
    o = k.open skip undone

    go : (used : ℕ) → TakesPiece r.limits (work_of r) piece used step.More new → (bytes : List ℕ) × RowsOpen r.limits bytes new.rows new.file
    go used t = (o.0 ++ take used piece, go_open r.limits (o.0 ++ take used piece) new.rows new.file (t.after o.0 o.1))

    at_row : (scans : Bool) (used : ℕ) → ReadsUpTo scans r.limits (work_of r) piece (Ok (fed.Row used)) new → (bytes : List ℕ) × RowsOpen r.limits bytes new.rows new.file
    at_row true used t = go used t.0.0
    at_row false used t = (o.0 ++ take used piece, give_open r.limits (o.0 ++ take used piece) new.rows new.file (t.after o.0 o.1).0)

    opened : (answer : Result FedRow Stop) → ReadsUpTo scans r.limits (work_of r) piece answer new → result_err answer ≡ None → is_done answer ≡ false → (bytes : List ℕ) × RowsOpen r.limits bytes new.rows new.file
    opened (Ok fed.More) t none going = go (length piece) t.0.0
    opened (Ok (fed.Row used)) t none going = at_row scans used t
    opened (Ok (fed.Done used)) t none going = absurd cc
    opened (Err e) t none going = absurd cc

    whole : (answer : Result FedRow Stop) → ReadsUpTo scans r.limits (work_of r) piece answer new → is_done answer ≡ true → (all : List ℕ) × AfterStrip r.limits all step.Whole new.rows new.file
    whole (Ok fed.More) t done = absurd cc
    whole (Ok (fed.Row used)) t done = absurd cc
    whole (Ok (fed.Done used)) t done = (o.0 ++ take used piece, (t.0.after o.0 o.1).0)
    whole (Err e) t done = absurd cc

-- as the reader is seen with this work
abbrev state_of : FileSeen → Bool → Bool → Option Stop → ReaderState
state_of work by done stopped = record { limits = limits_of work.file; file = work.file; by_row = by; in_rows = work.by_row; rows = work.rows; strip = work.strip; done = done; stop = stopped }

module _ {by was done scans : Bool} {old new : FileSeen} {before after : Option Stop} {piece : List ℕ} {answer : Result FedRow Stop} {now : ReaderState} (view : state_of old by was before ≡ now) (k : IsReading (state_of old by was before))
    (undone : now.done ≡ false) (skip : before ≡ None) (took : ReadsPiece scans (limits_of old.file) old piece answer new) (is : done ≡ is_done answer) (stopped : after ≡ result_err answer) where
  going : was ≡ false
  going = ap (λ (q : ReaderState). q.done) view ∙ undone

  comes : state_of new by done after ≡ after_piece answer (with_work (state_of old by was before) new)
  comes = ap (λ (s : Copying × Limits). let r : ReaderState = record (state_of new by done after) { limits = s.1 } in r) took.keeps.keeping ∙ ap (λ d. let r : ReaderState = record (state_of new by d after) { limits = limits_of old.file } in r) is ∙ ap (λ o. let r : ReaderState = record (state_of new by (is_done answer) o) { limits = limits_of old.file } in r) stopped

  pub kept : IsReading (state_of new by done after)
  kept = subst (λ (r : ReaderState). IsReading r) (sym comes) (keeps_piece answer k going skip took)

  pub reads_into : ReadsInto scans now piece answer (state_of new by done after)
  reads_into = subst (λ (r : ReaderState). ReadsInto scans r piece answer (state_of new by done after)) view (record { reading = k; undone = going; work = new; read = took; is = comes })

-- WHERE NO MCU ROWS ARE READ

pub plain_stands : (limits : Limits) (bytes : List ℕ) (o : Option RowWork) (w : FileState) → o ≡ None → RepresentsStrip limits bytes o w → RepresentsFile limits bytes w
plain_stands limits bytes o w none s = (let k = subst (λ (x : Option RowWork). RepresentsStrip limits bytes x w) none s in k)

pub plain_open : (limits : Limits) (bytes : List ℕ) (o : Option RowWork) (w : FileState) → o ≡ None → RepresentsFile limits bytes w → RowsOpen limits bytes o w
plain_open limits bytes o w none s = subst (λ (x : Option RowWork). RowsOpen limits bytes x w) (sym none) (record { stands = s; last = λ some. absurd cc })

pub plain_goes : (limits : Limits) (bytes : List ℕ) (o : Option RowWork) (w : FileState) → o ≡ None → RowsGo limits bytes o w → RepresentsFile limits bytes w
plain_goes limits bytes o w none g = (let k = subst (λ (x : Option RowWork). StripGoes limits bytes x w) none g.goes in k)

-- more may follow
pub fed_more : (r : ReaderState) (new : FileSeen) {all : List ℕ} → new.rows ≡ None → RowsGo r.limits all new.rows new.file → new.file.taken < r.limits.input → HasRead all (after_piece (Ok fed.More) (with_work r new))
fed_more r new {all = all} none g few =
    let k = plain_goes r.limits all new.rows new.file none g in
    let c = counted r.limits all new.file k in
    record { skip_ahead = refl; undone = refl; short = omega (arith, few, c); stands = stands_file r.limits all new.file k; «open» = k; head = head_is r.limits all new.file k }

-- they are complete
pub fed_done : (r : ReaderState) (new : FileSeen) {all : List ℕ} (used : ℕ) → new.rows ≡ None → AfterStrip r.limits all step.Whole new.rows new.file → IsDone all (after_piece (Ok (fed.Done used)) (with_work r new))
fed_done r new {all = all} used none a =
    let k = ends_plain r.limits all new.rows new.file none a in
    record { done = refl; meaning = _; whole = file_means r.limits all new.file k; ended = k; head = head_left r.limits all new.file k }

-- a fault is after bytes that have none
later_fault : (limits : Limits) (bytes piece : List ℕ) (f : FaultAt) → UnfinishedFile limits bytes → length bytes < limits.input → IsStopOf limits (bytes ++ piece) f → length bytes < f.at
later_fault limits bytes piece f stands short stops = at (stops (0 ∷ []))
  where
    all : List ℕ
    all = (bytes ++ piece) ++ 0 ∷ []

    long : length bytes < length all
    long = omega (arith, length-append (bytes ++ piece) (0 ∷ []), length-append bytes piece)

    by : (length bytes < f.at) ⊎ (f.at ≤ length bytes) → Reveals limits f.fault (take f.at all) → length bytes < f.at
    by (inl later) shown = later
    by (inr few) shown =
        let is : take f.at all ≡ take f.at bytes = ap (take f.at) (append_assoc bytes piece (0 ∷ [])) ∙ take-append-le f.at bytes (piece ++ 0 ∷ []) few in
        absurd (shown_not_standing limits f.fault (take f.at bytes) (drop f.at bytes) bytes (subst (λ l. Reveals limits f.fault l) is shown) stands (take-append-drop f.at bytes))

    at : IsFirstFault limits all f.fault f.at → length bytes < f.at
    at (inl (within, least)) = by (cases_lt (length bytes) f.at) least.1
    at (inr (inl most)) = omega (arith, short, most.1)
    at (inr (inr end)) = omega (arith, long, end.1)

-- what is answered then
abbrev AfterPlain : List ℕ → List ℕ → Result FedRow Stop → ReaderState → Type 0
AfterPlain bytes piece (Ok fed.More) r = HasRead (bytes ++ piece) r
AfterPlain bytes piece (Ok (fed.Row used)) r = HasRead (bytes ++ take used piece) r
AfterPlain bytes piece (Ok (fed.Done used)) r = IsDone (bytes ++ take used piece) r × (1 ≤ used) × (used ≤ length piece)
AfterPlain bytes piece (Err e) r = AfterFeed bytes piece (Err e) r

pub no_row : {old new : FileSeen} {limits : Limits} {bytes piece : List ℕ} {used : ℕ} → new.rows ≡ None → RowsOpen limits bytes old.rows old.file → TakesPiece limits old piece used step.Row new → ⊥
no_row {new = new} {limits = limits} {bytes = bytes} {piece = piece} {used = used} none h t =
    (let g = subst (λ (o : Option RowWork). AfterStrip limits (bytes ++ take used piece) step.Row o new.file) none ((t.after bytes h).0).row in g)

here : {old : ReaderState} {bytes : List ℕ} → IsPlain old → HasRead bytes old → RowsOpen old.limits bytes old.rows old.file
here {old = old} {bytes = bytes} plain h = plain_open old.limits bytes old.rows old.file plain.1 h.open

module _ {old : ReaderState} {new : FileSeen} {bytes piece : List ℕ} (plain : IsPlain old) (h : HasRead bytes old) where
  plain_after : (scans : Bool) (answer : Result FedRow Stop) → ReadsPiece scans old.limits (work_of old) piece answer new → AfterPlain bytes piece answer (after_piece answer (with_work old new))
  plain_after scans answer t = by scans answer t.read
    where
      none : new.rows ≡ None
      none = t.keeps.plain plain.1 plain.0

      by : (scans : Bool) (answer : Result FedRow Stop) → ReadsUpTo scans old.limits (work_of old) piece answer new → AfterPlain bytes piece answer (after_piece answer (with_work old new))
      by scans (Ok fed.More) t =
          subst (λ l. HasRead (bytes ++ l) (after_piece (Ok fed.More) (with_work old new))) (take_all (length piece) piece (omega arith)) (fed_more old new none (t.0.0.after bytes (here plain h)) t.0.1)
      by true (Ok (fed.Row used)) t = fed_more old new none (t.0.0.after bytes (here plain h)) t.0.1
      by false (Ok (fed.Row used)) t = absurd (no_row none (here plain h) t)
      by scans (Ok (fed.Done used)) t = (let a = t.0.after bytes (here plain h) in (fed_done old new used none a.0, a.1, t.0.few))
      by scans (Err (stop.Fault f)) t = (let a = t.1.after bytes (here plain h) in (a.0, later_fault old.limits bytes piece f h.stands h.short a.0, a.2))
      by scans (Err stop.NoMemory) t = (t.1.after bytes (here plain h)).0

abbrev as_row : Result Fed Stop → Result FedRow Stop
as_row (Ok whole.More) = Ok fed.More
as_row (Ok (whole.Done used)) = Ok (fed.Done used)
as_row (Err e) = Err e

-- and if the ends of scans' data are
abbrev scan_row : Result FedScan Stop → Result FedRow Stop
scan_row (Ok came.More) = Ok fed.More
scan_row (Ok (came.Scan used)) = Ok (fed.Row used)
scan_row (Ok (came.Done used)) = Ok (fed.Done used)
scan_row (Err e) = Err e

abbrev counts_none : (limits : Limits) (bytes piece : List ℕ) (old : FileState) (early : ℕ) → RepresentsFile limits bytes old → CountsOn limits old piece early → NoScanEnds limits bytes piece early
counts_none limits bytes piece old early h k = record {
  n = scans_ended old;
  few = k.few;
  before = state_ended limits bytes old h;
  after = subst (ScansEnded limits (bytes ++ take early piece)) k.same (state_ended limits (bytes ++ take early piece) k.mid (k.stands bytes h));
}

fewer : (n m : ℕ) → n ≤ m → (m ≡ n → ⊥) → n < m
fewer n m low other = by (cases_lt n m)
  where
    by : (n < m) ⊎ (m ≤ n) → n < m
    by (inl h) = h
    by (inr h) = absurd (other (omega (arith, low, h)))

module _ {old new : ReaderState} {piece : List ℕ} (plain : IsPlain old) where
  pub feeds : (answer : Result FedRow Stop) (came : Result Fed Stop) → answer ≡ as_row came → ReadsOne false old piece answer new → FeedsFile old piece came new
  feeds answer came is reads bytes h = (let t = subst (λ (a : Result FedRow Stop). ReadsInto false old piece a new) is (reads h.skip_ahead) in subst (λ (r : ReaderState). AfterFeed bytes piece came r) (sym t.is) (by came t.read))
    where
      by : (came : Result Fed Stop) {work : FileSeen} → ReadsPiece false old.limits (work_of old) piece (as_row came) work → AfterFeed bytes piece came (after_piece (as_row came) (with_work old work))
      by (Ok whole.More) t = plain_after plain h false (Ok fed.More) t
      by (Ok (whole.Done used)) t = plain_after plain h false (Ok (fed.Done used)) t
      by (Err e) t = plain_after plain h false (Err e) t

  pub asks : {scans : Bool} (e : Stop) → e ≡ stop.NoMemory → ReadsOne scans old piece (Err e) new → (bytes : List ℕ) → HasRead bytes old → AsksForMemory new.limits (length bytes) (bytes ++ piece) new.file.head
  asks {scans = scans} e is reads bytes h =
      let t = subst (λ (e : Stop). ReadsInto scans old piece (Err e) new) is (reads h.skip_ahead) in
      subst (λ (r : ReaderState). AsksForMemory r.limits (length bytes) (bytes ++ piece) r.file.head) (sym t.is) ((t.read.read.1.after bytes (here plain h)).1 (t.read.keeps.plain plain.1 plain.0))

  pub feeds_scan : (answer : Result FedRow Stop) (told : Result FedScan Stop) → answer ≡ scan_row told → ReadsOne true old piece answer new → FeedsScan old piece told new
  feeds_scan answer told is reads bytes h = (let t = subst (λ (a : Result FedRow Stop). ReadsInto true old piece a new) is (reads h.skip_ahead) in subst (λ (r : ReaderState). AfterFeedScan bytes piece told r) (sym t.is) (by told t.read))
    where
      none_ends : (early : ℕ) → CountsOn old.limits old.file piece early → NoScanEnds old.limits bytes piece early
      none_ends early k = counts_none old.limits bytes piece old.file early h.open k

      by : (told : Result FedScan Stop) {work : FileSeen} → ReadsPiece true old.limits (work_of old) piece (scan_row told) work → AfterFeedScan bytes piece told (after_piece (scan_row told) (with_work old work))
      by (Ok came.More) {work = work} t =
          let fed_on = plain_after plain h true (Ok fed.More) t in (
            fed_on,
            record {
              n = scans_ended old.file;
              few = omega arith;
              before = state_ended old.limits bytes old.file h.open;
              after =
                  subst (λ l. ScansEnded old.limits (bytes ++ l) (scans_ended old.file)) (sym (take_all (length piece) piece (omega arith)))
                  (subst (ScansEnded old.limits (bytes ++ piece)) (t.read.1 refl) (state_ended old.limits (bytes ++ piece) work.file fed_on.open));
            },
          )
      by (Ok (came.Scan used)) {work = work} t =
          let all = bytes ++ take used piece in
          let fed_on = plain_after plain h true (Ok (fed.Row used)) t in
          let last = t.read.1 in
          let was = state_ended old.limits bytes old.file h.open in
          let now = state_ended _ _ _ fed_on.open in (
            fed_on,
            record {
              early = last.0;
              count = last.1;
              within = t.read.0.0.few;
              none = none_ends last.0 last.2;
              more = scans_ended work.file;
              ended = now;
              later = fewer (scans_ended old.file) (scans_ended work.file) (scans_more old.limits bytes (take used piece) all (scans_ended old.file) (scans_ended work.file) refl was now) t.read.2;
            },
          )
      by (Ok (came.Done used)) t =
          let w = plain_after plain h true (Ok (fed.Done used)) t in
          let last = t.read.1 refl in
          (w.0, w.2, (last.0, last.1, none_ends last.0 last.2))
      by (Err (stop.Fault f)) t =
          let last = t.read.2 refl in
          let at = (t.read.1.after bytes (here plain h)).1 in
          let few = last.1 in
          (plain_after plain h true (Err (stop.Fault f)) t, (last.0, omega (arith, at, few), none_ends last.0 last.2))
      by (Err stop.NoMemory) t = plain_after plain h true (Err stop.NoMemory) t

-- A piece of a file that is read up to the end of a scan's data.

-- No bytes of the piece were taken, or before the last of them no further scan's data have ended.
pub record ScansSoFar (limits : Limits) (old : FileSeen) (piece : List ℕ) (done : ℕ) (answer : Step) (work : FileSeen) : Type 0 where
  pub at : ((done ≡ 0) × (answer ≡ step.More) × (scans_ended work.file ≡ scans_ended old.file)) ⊎ CountsBefore limits old.file piece done

module _ {limits : Limits} {old work : FileSeen} {piece : List ℕ} {done : ℕ} {answer : Step} (s : ScansSoFar limits old piece done answer work) where
  pub scans_early : (early : ℕ) × (done ≤ early + 1) × CountsOn limits old.file piece early
  scans_early = by s.at
    where
      by : ((done ≡ 0) × (answer ≡ step.More) × (scans_ended work.file ≡ scans_ended old.file)) ⊎ CountsBefore limits old.file piece done → (early : ℕ) × (done ≤ early + 1) × CountsOn limits old.file piece early
      by (inl z) = (
        0,
        (let none = z.0 in omega (arith, none)),
        record { mid = old.file; few = omega arith; stands = λ bytes h. subst (λ l. RepresentsFile limits l old.file) (sym (append-nil bytes)) h; same = refl },
      )
      by (inr b) = (b.0, (let one = b.1 in omega (arith, one)), b.2)

  pub scans_passed : (answer ≡ step.More → scans_ended work.file ≡ scans_ended old.file → ⊥) → CountsBefore limits old.file piece done
  scans_passed other = by s.at
    where
      by : ((done ≡ 0) × (answer ≡ step.More) × (scans_ended work.file ≡ scans_ended old.file)) ⊎ CountsBefore limits old.file piece done → CountsBefore limits old.file piece done
      by (inl z) = absurd (other z.1 z.2)
      by (inr b) = b

-- with some more bytes
pub scans_counted : {limits : Limits} {old work new : FileSeen} {piece : List ℕ} {done n : ℕ} (answer : Step) → TakesPiece limits old piece done step.More work → old.rows ≡ None → old.by_row ≡ false → scans_ended work.file ≡ scans_ended old.file
    → TakesBytes work (take (length piece - done) (drop done piece)) n answer new → CountsBefore limits old.file piece (done + n)
scans_counted {limits = limits} {old = old} {work = work} {new = new} {piece = piece} {done = done} {n = n} answer s none plain same taken = (
  done + some.early,
  (let e = some.count in omega (arith, e)),
  record {
    mid = some.mid;
    few = (let low = some.within in let long = length-drop done piece in omega (arith, low, long));
    stands = λ bytes h.
        (let front = bytes ++ take done piece in
        let k = plain_goes limits front work.rows work.file (s.keeps.plain none plain) (s.after bytes (plain_open limits bytes old.rows old.file none h)) in
        subst (λ l. RepresentsFile limits l some.mid) (front_is bytes piece done some.early) (some.before limits front k (limits_are limits front work.file k)));
    same = some.ended ∙ same;
  },
)
  where
    some : TakesSome work.file (drop done piece) n answer new.file
    some =
        subst (λ l. TakesSome work.file l n answer new.file) (take_all (length piece - done) (drop done piece) (omega (arith, length-drop done piece)))
        ((taken.fresh (s.keeps.plain none plain)).some (s.keeps.by_row ∙ plain))
