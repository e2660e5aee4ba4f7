-- The result of reading after a picture's rows were written, over the states of a desk.
use Rattle.std.proofs.Common.{◌≡◌, ℕ, ◌<◌, ◌⊎◌, List, [], ◌∷◌, ◌++◌, length, take, refl, sym, ap, ◌∙◌, subst, arith, inl, inr}
use Rattle.std.proofs.lemmas.List.{append-nil, take_all}
use Rattle.jpg_base.specs.Desk.{DeskState}
use Rattle.jpg_base.specs.declared.stop.Stop.{Stop}
use Rattle.jpg_base.specs.declared.stop.Stop.TheVariants as stop
use Rattle.jpg_spec_image.specs.RowsShown.{rows_text}
use Rattle.jpg_spec.specs.RowsParsed.{BeginsScanOfAll, CompletesRows, picture_so_far}
use Rattle.jpg_spec.specs.Segments.{standard_limits}
use Rattle.jpg_spec.specs.declared.fault.FaultAt.{FaultAt}
use Rattle.jpg_spec_words.specs.declared.answers.Why.TheVariants as why
use Rattle.jpg_spec_words.specs.declared.answers.Which.TheVariants as which
use Rattle.jpg_spec.specs.declared.frame.Limits.{Limits}
use Rattle.jpg_file.specs.Read.ReadFile.{IsRefusal, ReaderState, StopsAt, AfterEndRow, IsEarlyByRows, IsEarlyPlainly}
use Rattle.jpg_file.specs.declared.read.ends.End.TheVariants as ends
use Rattle.jpg_desk.specs.Endings.{Added}
use Rattle.jpg_desk.specs.Pump.{ReadsEnd, ReadsNothing, why_stopped}
use Rattle.jpg_desk.specs.Reading.{rest_of}
use Rattle.jpg_desk.specs.ReadPicture.{IsOpenRead, IsRefusedRead, Image}
use Rattle.jpg_desk.specs.Stays.{OnlyReads}
use Rattle.jpg_spec.specs.Meaning.{Meaning}
use Rattle.jpg_cli.specs.Outcome.{WritesRows, all_bytes, bytes_before}
use Rattle.jpg_cli.specs.Tools.Showing.{IsInTime, IsRowsText, IsShownByRows, IsShownUpTo, Showing, Shown, row_texts, showing_conversion}
use Rattle.jpg_cli.specs.Tools.ShowingRows.{HasCreated, HasShown, HasShownEarly, Work, at_work, Run}
use Rattle.jpg_desk.proofs.PiecesRead.{left_still}
use Rattle.jpg_desk.proofs.Input.{none_left}
use Rattle.jpg_desk.proofs.PictureBytes.{fault_at_end}
use Rattle.jpg_cli.proofs.ByRow.RowsDesk.{created_added, created_read}
use Rattle.jpg_cli.proofs.ByRow.RowsEnd.{none_unwanted, shown_head}
use Rattle.jpg_cli.proofs.ByRow.RowsRead.{created_then, early_more, open_rows}

-- nothing more was read
created_still : {s : Showing} {old start : DeskState} {all written : List ℕ} {s0 s1 : DeskState} → OnlyReads s0 s1 → s1.left ≡ s0.left → HasCreated s old start all written s0 → HasCreated s old start all written s1
created_still {start} {all} {s0} {s1} read left h = created_then read h (left_still s0 s1 all start left h.left)

-- what was taken
pub rows_short : {s : Showing} {run : Run} {m : ℕ} {w : Work} → HasShown s run m w → length run.all < standard_limits.input
rows_short {run} k = subst (λ (l : Limits). length run.all < l.input) k.limits (k.read).short

-- the output has the text of run.all MCU rows that are complete
so_far : {s : Showing} {run : Run} {work : Work} {m : ℕ} {s1 : DeskState} (upto : List ℕ → List ℕ) (Is : List ℕ → Type 0) → upto run.all ≡ run.all → (k : HasShown s run m work) → HasCreated s run.old run.start run.all k.written s1
    → Is run.all → WritesRows Meaning (showing_conversion s) (row_texts s) upto Is run.old s1
so_far {s} {run} {work} {m} {s1} upto Is whole k desk is =
    let text : List ℕ = rows_text s.kind (picture_so_far standard_limits (run.head).before (run.head).contents (k.drawing).blocks) s.gray s.smooth m in
    let same : k.written ≡ text = sym (append-nil k.written) ∙ ap (λ l. k.written ++ l) (sym k.out) ∙ (k.drawing).text in
    let completed = subst (λ (l : Limits). CompletesRows l run.all m (k.read).blocks) k.limits (k.read).completed in
    let due : IsRowsText s run.all text = record { before = (run.head).before; contents = (run.head).contents; begins = (k.head).begins; rows = m; blocks = (k.drawing).blocks; completed = ((k.drawing).told, completed.1); same = refl } in
    let short = rows_short k in
    record {
      text = text;
      read = created_read (IsShownUpTo s upto Is text) desk (omega (arith, short))
          (is, subst (λ l. IsShownByRows s.gray l) (sym whole) (shown_head k.head), subst (λ l. IsRowsText s l text) (sym whole) due);
      wrote = subst (λ t. Added (s.input ∷ []) s.output t run.old s1) same (created_added desk);
    }

pub rows_unread : {s : Showing} {run : Run} {work : Work} {m : ℕ} {s1 : DeskState} → ReadsNothing work.now s1 → HasShown s run m work
    → Shown s run.old (why.ReadFault which.Input) s1
rows_unread {s} read k = (
  (let rose = read.rose in let a = ((k.desk).opened).counts.reads in let b = (((k.desk).works).stays).counts.reads in omega (arith, rose, a, b)),
  inr (so_far all_bytes (IsOpenRead (Image s.gray)) refl k (created_still read.kept read.left k.desk) (open_rows k.limits k.head k.read)),
)

-- THE END
end_place : {s : Showing} {run : Run} {work : Work} {m : ℕ} (f : FaultAt) → HasShown s run m work → IsRefusal (work.reader).limits run.all f → f.at ≡ length run.all
end_place {run} {work} f k stops =
    let so = open_rows k.limits k.head k.read in
    fault_at_end run.all f.fault f.at so.stands so.short (subst (λ (l : Limits). IsRefusal l run.all f) k.limits stops)

end_whole : {s : Showing} {run : Run} {work : Work} {m : ℕ} (f : FaultAt) → HasShown s run m work → IsRefusal (work.reader).limits run.all f
    → take f.at run.all ≡ run.all
end_whole {run} {work} f k stops = let at = end_place f k stops in take_all f.at run.all (omega (arith, at))

end_refused : {s : Showing} {run : Run} {work : Work} {m : ℕ} (f : FaultAt) → HasShown s run m work → IsRefusal (work.reader).limits run.all f → IsRefusedRead (Image s.gray) f [] run.all
end_refused {run} {work} f k stops =
    let first = subst (λ (l : Limits). IsRefusal l run.all f) k.limits stops in
    let at = end_place f k stops in
    record {
      refused = inl (subst (λ l. IsRefusal standard_limits l f) (sym (append-nil run.all)) first, λ g u. absurd (none_unwanted [] g k.head u));
      within = omega (arith, at);
      last = omega (arith, at);
    }

pub rows_at_end : {s : Showing} {run : Run} {work : Work} {m : ℕ} (end : Stop) {s1 : DeskState} → ReadsEnd work.now s1 → StopsAt (work.reader).limits run.all end
    → HasShown s run m work → Shown s run.old (why_stopped end) s1
rows_at_end {s} {run} {work} (stop.Fault f) {s1} read stops k =
    let none : rest_of s1.left ≡ [] = ap rest_of read.left ∙ none_left (work.now).left read.ended in
    inr (so_far (bytes_before f) (IsRefusedRead (Image s.gray) f (rest_of s1.left)) (end_whole f k stops) k (created_still read.kept read.left k.desk)
    (subst (λ (rest : List ℕ). IsRefusedRead (Image s.gray) f rest run.all) (sym none) (end_refused f k stops)))
rows_at_end stop.NoMemory read stops k = absurd stops

-- or run.all MCU rows that are complete were drawn and written, if the input ended early
pub ended_early : {s : Showing} {run : Run} {work : Work} {m n : ℕ} {after : ReaderState} {s1 : DeskState} → ReadsEnd work.now s1 → after.limits ≡ (work.reader).limits
    → AfterEndRow run.all m (ends.Early n) after → HasShown s run m work → HasShownEarly s run m n (at_work after work.image work.end s1)
ended_early {s} {run} {work} {m} {after} read limits ended k = record {
  written = k.written;
  limits = limits ∙ k.limits;
  count = ended.0;
  short = subst (λ (l : Limits). length run.all < l.input) k.limits (k.read).short;
  done = by ended.1;
  small = k.small;
  head = k.head;
  drawing = k.drawing;
  desk = created_still read.kept read.left k.desk;
  early = subst (λ l. IsInTime s l k.written) (append-nil run.all) (early_more [] (omega arith) k);
  ended = ap rest_of read.left ∙ none_left (work.now).left read.ended;
}
  where
    by : (IsEarlyPlainly run.all after × (m ≡ 0)) ⊎ IsEarlyByRows run.all m after → IsEarlyByRows run.all m after
    by (inl plain) = absurd ((plain.0).plain (run.head).before (run.head).contents (subst (λ (l : Limits). BeginsScanOfAll l run.all (run.head).before (run.head).contents) (sym (limits ∙ k.limits)) (k.head).begins))
    by (inr rows) = rows
