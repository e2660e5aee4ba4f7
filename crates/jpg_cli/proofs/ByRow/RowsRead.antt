-- One more piece of a file that is written row by row.
use Rattle.std.proofs.Common.{◌≡◌, ℕ, ◌+◌, ◌<◌, ◌≤◌, Bool, List, [], ◌++◌, length, take, drop, refl, sym, ap, ◌∙◌, subst, arith, inl, inr, ◌⊎◌, Option, None, Result, Ok, Err}
use Rattle.std.specs.List.{All}
use Rattle.std.proofs.lemmas.Bool.{cases_lt}
use Rattle.std.proofs.lemmas.List.Elements.{All-append}
use Rattle.std.proofs.lemmas.List.{append-nil, length-append, take_all, take-append-drop, take-append-le}
use Rattle.std.specs.Io.KnownBytes.{Consumes}
use Rattle.jpg_base.specs.declared.names.Put.{Put}
use Rattle.jpg_base.specs.declared.names.Put.TheVariants as put
use Rattle.jpg_base.specs.declared.names.Name.{Name}
use Rattle.jpg_base.specs.declared.stop.Stop.{Stop}
use Rattle.jpg_base.specs.declared.stop.Stop.TheVariants as stop
use Rattle.jpg_base.specs.Desk.{DeskState, NotesName}
use Rattle.jpg_base.specs.Laws.{Consumes-then, Grows}
use Rattle.jpg_spec.specs.UnfinishedFile.{UnfinishedFile}
use Rattle.jpg_spec.specs.Markers.{Segment}
use Rattle.jpg_spec.specs.RowLaws.{TellsMore, first_blocks}
use Rattle.jpg_spec.specs.RowsParsed.{BeginsScanOfAll, CompletesRows, TellsRows, picture_so_far}
use Rattle.jpg_spec_image.specs.RowsShown.{rows_text}
use Rattle.jpg_spec.specs.Scan.{Blocks}
use Rattle.jpg_spec.specs.Segments.{standard_limits}
use Rattle.jpg_spec.specs.declared.frame.Limits.{Limits}
use Rattle.jpg_spec.proofs.McuRows.RowsOnce.{first_told, rows_once, rows_stay}
use Rattle.jpg_file.specs.Read.ReadFile.{ReaderState, AfterFeedRow, FeedsRow, HasReadRows}
use Rattle.jpg_file.specs.Read.Strips.{HasNoRows}
use Rattle.jpg_file.specs.declared.read.pieces.FedRow.{FedRow}
use Rattle.jpg_file.specs.declared.read.pieces.FedRow.TheVariants as fed
use Rattle.jpg_pnm_bmp.specs.EndState.{EndState}
use Rattle.jpg_color.specs.StripImage.{Drawing}
use Rattle.jpg_desk.specs.ReadPicture.{IsOpenRead, IsUnwanted, Image}
use Rattle.jpg_cli.specs.Tools.Showing.{IsInTime, Showing}
use Rattle.jpg_cli.specs.Tools.ShowingRows.{HasCreated, HasShown, Head, IsDrawing, IsHeadIn, IsShowing, ReadsNext, at_work, Run, more_read, Work}
use Rattle.jpg_desk.specs.Stays.{OnlyReads}
use Rattle.jpg_desk.proofs.PiecesRead.{works_then}
use Rattle.jpg_cli.proofs.Pieces.FirstRead.{not_none}
use Rattle.jpg_cli.proofs.ByRow.RowHeads.{begins_more, begins_upto, one_head}
use Rattle.jpg_cli.proofs.ByRow.RowsEnd.{none_unwanted}

-- ROWS that are decoded remain so, and if more are decoded, fewer are
fewer_told : {bytes : List ℕ} (k : ℕ) {m : ℕ} {blocks : Blocks} → k ≤ m → TellsRows standard_limits bytes m blocks → (x : Blocks) × TellsRows standard_limits bytes k x
fewer_told {bytes} k {m} {blocks} few told =
    let w : TellsMore standard_limits bytes k = record { all = m; blocks = blocks; enough = few; told = told } in (first_blocks standard_limits bytes k w, first_told standard_limits bytes k w)

-- of longer bytes, if more are decoded
told_before : {bytes : List ℕ} (more : List ℕ) {k m : ℕ} {blocks x : Blocks} → k ≤ m → TellsRows standard_limits bytes m blocks → TellsRows standard_limits (bytes ++ more) k x → TellsRows standard_limits bytes k x
told_before {bytes} more {k} {x} few told h =
    let y = fewer_told k few told in
    subst (λ (b : Blocks). TellsRows standard_limits bytes k b) (sym (rows_once standard_limits (bytes ++ more) k x y.0 h (rows_stay standard_limits bytes more k y.0 y.1))) y.1

-- no more are decoded than are complete
no_more_told : {bytes : List ℕ} {k m : ℕ} {blocks x : Blocks} → CompletesRows standard_limits bytes m blocks → TellsRows standard_limits bytes k x → k ≤ m
no_more_told {k} {m} completed told = by (cases_lt m k)
  where
    by : (m < k) ⊎ (k ≤ m) → k ≤ m
    by (inr few) = few
    by (inl more) = (let y = fewer_told (m + 1) (omega (arith, more)) told in absurd (completed.1 y.0 y.1))

-- A SCAN THAT BEGAN remains the current one
no_plain : (bytes : List ℕ) (before : List Segment) (contents : List ℕ) (limits : Limits) → limits ≡ standard_limits → BeginsScanOfAll standard_limits bytes before contents → HasNoRows limits bytes → ⊥
no_plain bytes before contents limits e k none = none before contents (subst (λ (l : Limits). BeginsScanOfAll l bytes before contents) (sym e) k)

pub work_stays : {bytes : List ℕ} (piece : List ℕ) {before : List Segment} {contents : List ℕ} (m : ℕ) (answer : Result FedRow Stop) (r : ReaderState) → r.limits ≡ standard_limits → BeginsScanOfAll standard_limits bytes before contents → AfterFeedRow bytes m piece answer r
    → r.rows ≡ None → ⊥
work_stays {bytes} piece {before} {contents} m (Ok fed.More) r e k (inl h) none = no_plain (bytes ++ piece) before contents r.limits e (begins_more bytes piece before contents k) (h.0).plain
work_stays {bytes} piece m (Ok fed.More) r e k (inr h) none = not_none r (bytes ++ piece) h.begun none
work_stays {bytes} piece m (Ok (fed.Row used)) r e k h none = not_none r (bytes ++ take used piece) (h.0).begun none
work_stays {bytes} piece {before} {contents} m (Ok (fed.Done used)) r e k (inl h, some, within) none =
    no_plain (bytes ++ take used piece) before contents r.limits e (begins_more bytes (take used piece) before contents k) h.plain
work_stays {bytes} piece m (Ok (fed.Done used)) r e k (inr h, some, within) none = not_none r (bytes ++ take used piece) h.begun none
work_stays {bytes} piece {before} {contents} m (Err (stop.Fault f)) r e k (stops, late, keeps, inl h) none =
    no_plain (take f.at (bytes ++ piece)) before contents r.limits e (begins_upto bytes piece f.at before contents late k) h.1
work_stays {bytes} piece m (Err (stop.Fault f)) r e k (stops, late, keeps, inr h) none = not_none r (take f.at (bytes ++ piece)) h.begun none
work_stays {bytes} piece {before} {contents} m (Err stop.NoMemory) r e k (keeps, rows, plain) none = no_plain bytes before contents r.limits e k plain

-- ONE MORE PIECE

pub drawing_more : {s : Showing} {h : Head} {all : List ℕ} (piece : List ℕ) {m : ℕ} {written : List ℕ} {d : Drawing} {e : EndState} → IsDrawing s h all m written d e → IsDrawing s h (all ++ piece) m written d e
drawing_more {all} piece {m} k = record {
  kind = k.kind;
  framed = k.framed;
  given = k.given;
  end = k.end;
  blocks = k.blocks;
  told = rows_stay standard_limits all piece m k.blocks k.told;
  drawn = k.drawn;
  text = k.text;
  enough = λ n x few told. k.enough n x few (told_before piece few k.told told);
}

-- what was read and what was written, after one more read
pub created_then : {s : Showing} {old start : DeskState} {all bytes written : List ℕ} {s0 s1 : DeskState} → OnlyReads s0 s1 → HasCreated s old start all written s0 → Consumes start.left s1.left bytes → HasCreated s old start bytes written s1
created_then {s} {start} {written} read h left = record {
  opened = h.opened;
  works = works_then h.works read.copies.works;
  left = left;
  asked = (let P : Option (List (Name × Put)) → Type 0 = λ a. NotesName start.asked (s.output, put.Done) a in subst P (sym read.copies.asked) h.asked);
  outputs = (let P : Option (List (Name × List ℕ)) → Type 0 = λ a. Grows start.outputs (s.output, written) a in subst P (sym read.outputs) h.outputs);
  created = read.copies.output_created ∙ h.created;
}

pub open_rows : {gray : Bool} {h : Head} {all : List ℕ} {m : ℕ} {r : ReaderState} → r.limits ≡ standard_limits → IsHeadIn gray h all → HasReadRows all m r → IsOpenRead (Image gray) all
open_rows {gray} {all} e head k = record {
  short = subst (λ (l : Limits). length all < l.input) e k.short;
  stands = subst (λ (l : Limits). UnfinishedFile l all) e k.stands;
  wanted = λ f u. none_unwanted [] f head (subst (λ l. IsUnwanted (Image gray) l f) (sym (append-nil all)) u);
}

-- the text that was pending before the piece was written before it
pub early_more : {s : Showing} {run : Run} {work : Work} (piece : List ℕ) {m : ℕ} → length piece ≤ 16384 → (k : HasShown s run m work) → IsInTime s (run.all ++ piece) k.written
early_more {s} {run} {work} piece {m} few k front rest text cut many due =
    let size = ap length cut in
    let short : length front ≤ length run.all = omega (arith, size, few, many, length-append run.all piece, length-append front rest) in
    let first : take (length front) run.all ≡ front =
    sym (take-append-le (length front) run.all piece short) ∙ ap (take (length front)) cut ∙ take-append-le (length front) front rest (omega arith) ∙ take_all (length front) front (omega arith) in
    let other = drop (length front) run.all in
    let same : front ++ other ≡ run.all = ap (λ l. l ++ other) (sym first) ∙ take-append-drop (length front) run.all in
    let there : TellsRows standard_limits run.all due.rows due.blocks = subst (λ l. TellsRows standard_limits l due.rows due.blocks) same (rows_stay standard_limits front other due.rows due.blocks (due.completed).0) in
    let completed = subst (λ (l : Limits). CompletesRows l run.all m (k.read).blocks) k.limits (k.read).completed in
    let one = one_head front run.all other [] due.before (run.head).before due.contents (run.head).contents (same ∙ sym (append-nil run.all)) due.begins (k.head).begins in
    let fits = (k.drawing).enough due.rows due.blocks (no_more_told completed there) there in
    let text_is : text ≡ rows_text s.kind (picture_so_far standard_limits (run.head).before (run.head).contents due.blocks) s.gray s.smooth due.rows =
    due.same ∙ ap (λ (b : List Segment). rows_text s.kind (picture_so_far standard_limits b due.contents due.blocks) s.gray s.smooth due.rows) one.0
    ∙ ap (λ (c : List ℕ). rows_text s.kind (picture_so_far standard_limits (run.head).before c due.blocks) s.gray s.smooth due.rows) one.1 in
    let none = ap length k.out in
    omega (arith, fits, ap length text_is, none, length-append k.written (work.image).out)

-- the reader was fed it
pub fed_more : {s : Showing} {run : Run} {work : Work} {m : ℕ} {piece : List ℕ} (answer : Result FedRow Stop) (new : ReaderState) → ReadsNext s run m piece work
    → All (λ b. b < 256) piece → FeedsRow work.reader piece answer new → new.limits ≡ (work.reader).limits → IsShowing s (more_read run piece) m piece answer (at_work new work.image work.end work.now)
fed_more {s} {run} {work} {m} {piece} answer new n small feeds limits = record {
  written = k.written;
  read = record {
    fed = run.all;
    cut = refl;
    few = n.reads.few;
    limits = limits ∙ k.limits;
    after = after;
    begun = work_stays piece m answer new (limits ∙ k.limits) (k.head).begins after;
    most = n.most;
    small = All-append (λ b. b < 256) run.all piece k.small small;
    short = record { front = run.all; piece = piece; cut = refl; few = (let few = n.reads.few in omega (arith, few)); before = open_rows k.limits k.head k.read };
    head = record { begins = begins_more run.all piece (run.head).before (run.head).contents (k.head).begins; shown = (k.head).shown };
  };
  drawing = drawing_more piece k.drawing;
  desk = created_then n.reads.kept k.desk (Consumes-then (run.start).left (n.before).left (work.now).left run.all piece (k.desk).left n.reads.read);
  early = early_more piece n.reads.few k;
}
  where
    k : HasShown s run m (record work { now = n.before })
    k = n.shown

    after : AfterFeedRow run.all m piece answer new
    after = feeds run.all m (inr (inl k.read))
