-- The image of a complete file whose MCU rows were all drawn is completed.
use Rattle.std.proofs.Common.{◌≡◌, ℕ, ◌+◌, List, [], ◌++◌, length, take, refl, sym, ap, ◌∙◌, subst, arith, inl, Option, Some, None, Result, Ok, Err}
use Rattle.std.specs.Prelude.{IfOk}
use Rattle.std.proofs.lemmas.List.{append_assoc, append-nil, length-append, take_all, take-append-le}
use Rattle.jpg_base.specs.Desk.{DeskState}
use Rattle.jpg_spec.specs.UnfinishedFile.{IsWholeFile}
use Rattle.jpg_spec_image.specs.ImageText.{end_text}
use Rattle.jpg_spec.specs.Meaning.{Meaning}
use Rattle.jpg_spec_image.specs.Pixels.{info, out_fault, pixels}
use Rattle.jpg_spec_image.specs.RowLaws.{CompletesAll}
use Rattle.jpg_spec.specs.RowLaws.{IsReadByRows}
use Rattle.jpg_spec.specs.RowsParsed.{BeginsScanOfAll, CompletesRows, TellsRows}
use Rattle.jpg_spec_image.specs.RowsShown.{rows_text}
use Rattle.jpg_spec.specs.Scan.{Blocks}
use Rattle.jpg_spec.specs.Segments.{standard_limits}
use Rattle.jpg_spec_image.specs.Strips.{mcu_rows}
use Rattle.jpg_spec.specs.declared.fault.Fault.{Fault}
use Rattle.jpg_spec.specs.declared.frame.Limits.{Limits}
use Rattle.jpg_spec_image.specs.declared.image.EndKind.{EndKind}
use Rattle.jpg_spec_image.proofs.RowsCompleted.{complete_all}
use Rattle.jpg_spec_image.proofs.RowsImage.{image_so_far}
use Rattle.jpg_spec.proofs.McuRows.RowsOnce.{completed_once, rows_once, rows_stay}
use Rattle.jpg_spec_image.proofs.ShownAlike.{shown_alike}
use Rattle.jpg_pnm_bmp.specs.EndState.{EndState}
use Rattle.jpg_color.specs.DecodeRows.{SendsImage}
use Rattle.jpg_color.specs.StripImage.{Drawing, EndsDrawing, IsDrawnTo, IsAllGiven, StaysDrawn, rest_text}
use Rattle.jpg_color.specs.declared.decode.DecodeStop.{DecodeStop}
use Rattle.jpg_color.proofs.Drawn.{all_same}
use Rattle.jpg_color.proofs.DrawnLaws.{texts_join}
use Rattle.jpg_file.specs.declared.read.pieces.FedRow.{FedRow}
use Rattle.jpg_base.specs.declared.stop.Stop.{Stop}
use Rattle.jpg_base.specs.declared.stop.Stop.TheVariants as stop
use Rattle.jpg_desk.specs.Pump.{why_stopped}
use Rattle.jpg_desk.specs.ReadPicture.{IsWholeRead, Image}
use Rattle.jpg_cli.specs.Tools.Showing.{Showing, Shown, shown_text}
use Rattle.jpg_cli.specs.Tools.ShowingRows.{AfterLast, HasShownAll, Head, IsLastPiece, IsShowing, at_work, why_of, Run, Work}
use Rattle.jpg_cli.proofs.Pieces.FirstRead.{not_shown}
use Rattle.jpg_cli.proofs.Encoding.ImageStopped.{IsImageText, image_stopped, image_whole}
use Rattle.jpg_cli.proofs.ByRow.RowsEnd.{rows_written}
use Rattle.jpg_cli.proofs.ByRow.RowsWhole.{begins_in, read_by_rows, so_far}

-- THE FILE: the image of the decoded rows is that of its picture

pub record IsShownWhole (s : Showing) (h : Head) (all : List ℕ) (m : ℕ) (blocks : Blocks) (M : Meaning) : Type 0 where
  pub whole : IsWholeRead (Image s.gray) M all
  pub rows : m ≡ mcu_rows (so_far h blocks)
  pub text : end_text s.kind (info (so_far h blocks) s.gray) (pixels (so_far h blocks) s.gray s.smooth) ≡ shown_text s M

pub shown_whole : {s : Showing} {run : Run} {work : Work} {m : ℕ} → (k : HasShownAll s run m work)
    → IsShownWhole s run.head run.all m (k.drawing).blocks (k.done).meaning
shown_whole {s} {run} {work} {m} k = record {
  whole = record {
    count = length k.front;
    within = omega (arith, size);
    last = (let few = k.few in omega (arith, size, few));
    whole = subst (λ l. IsWholeFile standard_limits l M) (sym first) whole;
    small = k.small;
    wanted = wanted (out_fault s.gray M) refl;
  };
  rows = one.0 ∙ sym (ap mcu_rows c.same);
  text = image_so_far standard_limits k.front M w s.kind s.gray s.smooth (k.drawing).blocks completed;
}
  where
    M : Meaning
    M = (k.done).meaning

    size : length run.all ≡ length k.front + length k.rest
    size = ap length k.cut ∙ length-append k.front k.rest

    first : take (length k.front) run.all ≡ k.front
    first = ap (take (length k.front)) k.cut ∙ take-append-le (length k.front) k.front k.rest (omega arith) ∙ take_all (length k.front) k.front (omega arith)

    whole : IsWholeFile standard_limits k.front M
    whole = subst (λ (l : Limits). IsWholeFile l k.front M) k.limits (k.done).whole

    begins : BeginsScanOfAll standard_limits k.front (run.head).before (run.head).contents
    begins = begins_in s.gray run.head run.all k.front k.rest M k.head k.cut whole

    w : IsReadByRows standard_limits k.front M
    w = read_by_rows run.head k.front M whole begins

    c : CompletesAll standard_limits k.front M w
    c = complete_all standard_limits k.front M w

    done : CompletesRows standard_limits k.front m (k.done).blocks
    done = subst (λ (l : Limits). CompletesRows l k.front m (k.done).blocks) k.limits (k.done).completed

    one : (m ≡ mcu_rows M) × ((k.done).blocks ≡ c.blocks)
    one = completed_once standard_limits k.front m (mcu_rows M) (k.done).blocks c.blocks done c.completed

    told : TellsRows standard_limits run.all m (k.done).blocks
    told = subst (λ l. TellsRows standard_limits l m (k.done).blocks) (sym k.cut) (rows_stay standard_limits k.front k.rest m (k.done).blocks done.0)

    same : (k.drawing).blocks ≡ (k.done).blocks
    same = rows_once standard_limits run.all m (k.drawing).blocks (k.done).blocks (k.drawing).told told

    completed : CompletesRows standard_limits k.front (mcu_rows M) (k.drawing).blocks
    completed = subst (λ (b : Blocks). CompletesRows standard_limits k.front (mcu_rows M) b) (sym same) (subst (λ n. CompletesRows standard_limits k.front n (k.done).blocks) one.0 done)

    wanted : (o : Option Fault) → out_fault s.gray M ≡ o → out_fault s.gray M ≡ None
    wanted None is = is
    wanted (Some fault) is =
        let t = (shown_alike standard_limits s.gray k.front M (inl whole.0)).told fault is in
        absurd (not_shown s.gray k.front t.0 t.1 (record { before = (run.head).before; contents = (run.head).contents; begins = begins; shown = (k.head).shown }))

pub all_told : {s : Showing} {run : Run} {work : Work} {m : ℕ} → HasShownAll s run m work → IsAllGiven (work.image).strips
all_told {s} {run} {work} k = record {
  given = (k.drawing).given;
  all =
      ((k.drawing).drawn).pushed ∙ (shown_whole k).rows
      ∙ sym (all_same work.image (so_far run.head (k.drawing).blocks) s.gray s.smooth ((k.drawing).drawn).image);
}

-- ITS END

module _ {s : Showing} {old start : DeskState} {M : Meaning} {all written : List ℕ} where
  image_ended : {out due : List ℕ} (result : Result (Unit {0}) DecodeStop) {new : List ℕ} {s0 s1 : DeskState} → IsImageText s old start M None all written (out ++ due) [] s0
      → SendsImage s0 out due result new s1 → IfOk result (λ u. new ≡ []) → Shown s old (why_of result) s1
  image_ended (Ok u) h sent none = let whole = image_whole h sent none in (M, (whole.0, whole.1, tt))
  image_ended (Err ended) h sent none = image_stopped ended h sent

pub rows_finished : {s : Showing} {run : Run} {work : Work} {m : ℕ} {result : Result (Unit {0}) DecodeStop} {new : Drawing} {new_end : EndState} {s1 : DeskState}
    → EndsDrawing work.now work.image work.end result new new_end s1 → HasShownAll s run m work → Shown s run.old (why_of result) s1
rows_finished {s} {run} {work} {result} {new} {s1} ends k =
    let P = so_far run.head (k.drawing).blocks in
    let M = (k.done).meaning in
    let w = shown_whole k in
    let drawn = subst (λ n. IsDrawnTo work.image work.end P s.gray s.smooth n) w.rows (k.drawing).drawn in
    let rest = rest_text s.kind P s.gray s.smooth in
    let sent = subst (λ (kind : EndKind). SendsImage work.now (work.image).out (rest_text kind P s.gray s.smooth) result new.out s1) (k.drawing).kind (ends.drawn P s.gray s.smooth drawn) in
    let join = texts_join work.image P s.gray s.smooth s.kind ((k.drawing).drawn).image in
    let text : k.written ++ (((work.image).out ++ rest) ++ []) ≡ shown_text s M =
    ap (λ l. k.written ++ l) (append-nil ((work.image).out ++ rest)) ∙ sym (append_assoc k.written (work.image).out rest) ∙ ap (λ l. l ++ rest) ((k.drawing).text ∙ ap (λ n. rows_text s.kind P s.gray s.smooth n) w.rows) ∙ join.whole ∙ w.text in
    image_ended result (record { same = text; in_time = k.early; desk = k.desk; most = k.most; means = w.whole; left = tt }) sent ends.out

-- A PIECE whose rows were drawn, when what waited was written

module _ {s : Showing} {run : Run} {work : Work} {m : ℕ} {piece : List ℕ} {answer : Result FedRow Stop} {new : Drawing} {s1 : DeskState} where
  -- by the reader's result
  pub all_written : {a : Result FedRow Stop} → answer ≡ a → IsLastPiece answer → StaysDrawn work.image new → new.out ≡ [] → SendsImage work.now (work.image).out [] (Ok tt) new.out s1 → IsShowing s run m piece answer work → AfterLast s run a (at_work work.reader new work.end s1)
  all_written is last stays none sent k = subst (λ (a : Result FedRow Stop). AfterLast s run a (at_work work.reader new work.end s1)) is (rows_written new last stays.strips stays.info none sent k)

  pub written_ok : {x f : FedRow} → answer ≡ Ok x → x ≡ f → IsLastPiece answer → StaysDrawn work.image new → new.out ≡ [] → SendsImage work.now (work.image).out [] (Ok tt) new.out s1 → IsShowing s run m piece answer work → AfterLast s run (Ok f) (at_work work.reader new work.end s1)
  written_ok is told last stays none sent k = all_written (is ∙ ap (λ (y : FedRow). (let z : Result FedRow Stop = Ok y in z)) told) last stays none sent k

pub last_stopped : (s : Showing) (run : Run) (w : Work) (x : Stop) → AfterLast s run (Err x) w → Shown s run.old (why_stopped x) w.now
last_stopped s run w (stop.Fault f) h = h
last_stopped s run w stop.NoMemory h = absurd h
