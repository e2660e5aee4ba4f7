-- If all calls succeed, a file that has what its command needs is processed.
use Rattle.std.proofs.Common.{◌⊎◌, ◌≡◌, ℕ, ◌<◌, ◌≤◌, Bool, List, length, take, Option, None, Some, refl, sym, ap, ◌∙◌, subst, arith, inl, inr}
use Rattle.std.proofs.lemmas.List.{length-append, take_all, take-append-le}
use Rattle.jpg_base.specs.declared.names.Name.{Name}
use Rattle.jpg_base.specs.declared.names.Name.TheVariants as name
use Rattle.jpg_base.specs.Desk.{DeskState}
use Rattle.jpg_spec.specs.Segments.{standard_limits}
use Rattle.jpg_spec_write.specs.CommentText.{IsInserted, IsInsertFault, IsReadFault}
use Rattle.jpg_spec_words.specs.CommentWords.{CommentSource, from_input, from_words, from_file}
use Rattle.jpg_spec.specs.declared.fault.FaultAt.{FaultAt}
use Rattle.jpg_spec_words.specs.declared.answers.Why.{Why}
use Rattle.jpg_spec_words.specs.declared.answers.Why.TheVariants as why
use Rattle.jpg_comments.specs.Inserting.{HoldsHead}
use Rattle.jpg_comments.specs.Printing.{HoldsWhole}
use Rattle.jpg_comments.proofs.OneAnswer.{heads_sound, reading_sound, whole_no_fault}
use Rattle.jpg_cli.specs.Certain.{HasFrameHeader, HasImage, HasPicture, HasShownFront, HasWholeFile, IsDoneAsOrWanting, IsDoneOrWanting, IsOrNoMemory, IsToldComment}
use Rattle.jpg_desk.specs.Judging.{done_as}
use Rattle.jpg_desk.specs.Writing.{MeansUpright}
use Rattle.jpg_cli.specs.Tools.CommentInserted.{HasInputFault, HasLongComment, Inserted, IsComment, IsInsertDue, Task}
use Rattle.jpg_cli.specs.Tools.ReadComments.{IsPrintDue, Printed}
use Rattle.jpg_cli.specs.Laws.{MeanSame, WasTurnedBack, text_back}
use Rattle.jpg_cli.specs.Due.{NoneRose}
use Rattle.jpg_words.specs.Commands.{name_of}
use Rattle.jpg_cli.specs.Tools.FrontShown.{FrontShown, front_conversion}
use Rattle.jpg_cli.specs.Tools.Showing.{Showing, Shown, showing_conversion}
use Rattle.jpg_cli.specs.Tools.Turned.{Transformed, turning_conversion, turning_of}
use Rattle.jpg_spec.specs.Meaning.{Meaning}
use Rattle.jpg_spec_move.specs.Moved.{moved}
use Rattle.jpg_spec_words.specs.TransformWords.{TransformAsked}
use Rattle.jpg_spec_move.specs.declared.transform.Transform.{Transform}
use Rattle.jpg_spec_move.proofs.MovedBack.{moved_back}
use Rattle.jpg_cli.proofs.Comments.CommentsPrinted.{print_due}
use Rattle.jpg_cli.proofs.Outcomes.Due.{due_as, is_file, one_file, tells_files}
use Rattle.jpg_cli.proofs.Outcomes.DueCommands.{front_answered, show_answered, turn_answered}
use Rattle.jpg_desk.proofs.FrontJudged.{front_judged}
use Rattle.jpg_desk.proofs.Judged.{picture_judged}
use Rattle.jpg_cli.proofs.Outcomes.TakenOnce.{told_scans}
use Rattle.jpg_cli.proofs.Comments.InsertedThen.{insert_due}
use Rattle.jpg_desk.specs.ReadPicture.{Coefficients, Image}

one_comment : (old : DeskState) (source : CommentSource) (comment other : List ℕ) → IsToldComment old source comment → IsComment old source other → other ≡ comment
one_comment old from_input comment other told is = one_file old.files name.In comment other told is
one_comment old (from_words text) comment other told is = is ∙ sym told
one_comment old (from_file file) comment other told is = one_file old.files (name.File file) comment other told is

-- PRINTED

pub printed_certain : (old new : DeskState) (input output : Name) (w : Why) → HasWholeFile old input → NoneRose old.counts new.counts → Printed input output old w new → IsDoneOrWanting w
printed_certain old new input output w (bytes, n, told, front) none printed = by w (print_due old new input output w none printed)
  where
    by : (w : Why) → IsPrintDue input old w → IsDoneOrWanting w
    by why.Done due = tt
    by (why.Refused f) (other, is, fault) =
        let shown = subst (λ (b : List ℕ). IsReadFault standard_limits b f.fault f.at) (one_file old.files input bytes other told is) fault in
        absurd (whole_no_fault standard_limits (HoldsWhole standard_limits) (reading_sound standard_limits) bytes n f.at f.fault front.0 front.1 front.2 shown)
    by why.NoMemory due = tt
    by other due = absurd due

-- INSERTED

-- a file that has a frame header, and is no longer than may be, has no fault
no_insert_fault : (bytes comment text : List ℕ) (task : Task) (f : FaultAt) → IsInserted standard_limits bytes comment task.replace text → length bytes < standard_limits.input → IsInsertFault standard_limits bytes f.fault f.at → ⊥
no_insert_fault bytes comment text task f (before, code, front, rest, cut, head, is) short (inl fault) =
    let within : length front ≤ length bytes = omega (arith, ap length cut, length-append front rest) in
    let same : take (length front) bytes ≡ front =
    ap (take (length front)) cut ∙ take-append-le (length front) front rest (omega arith) ∙ take_all (length front) front (omega arith) in
    let holds = subst (λ (b : List ℕ). HoldsHead standard_limits b) (sym same) (code, (before, head)) in
    whole_no_fault standard_limits (HoldsHead standard_limits) (heads_sound standard_limits) bytes (length front) f.at f.fault within (omega (arith, within, short)) holds fault
no_insert_fault bytes comment text task f inserted short (inr (long, at, most, there)) = omega (arith, most, short)

pub inserted_certain : (old new : DeskState) (task : Task) (w : Why) → HasFrameHeader old task → NoneRose old.counts new.counts → Inserted task old w new → IsDoneOrWanting w
inserted_certain old new task w has none done = by w (insert_due old new task w none done)
  where
    refused : (f : FaultAt) → HasLongComment task f old ⊎ HasInputFault task f old → ⊥
    refused f (inl (other, source, long, fault)) =
        let fits = has.fits in
        let same = ap length (one_comment old task.comment has.comment other has.source source) in omega (arith, same, long, fits)
    refused f (inr (with, other, source, file, fault)) =
        no_insert_fault has.bytes has.comment has.text task f has.inserted has.short
        (subst (λ (b : List ℕ). IsInsertFault standard_limits b f.fault f.at) (one_file old.files task.input has.bytes other has.told file) fault)

    by : (w : Why) → IsInsertDue task old w → IsDoneOrWanting w
    by why.Done due = tt
    by (why.Refused f) due = absurd (refused f due)
    by why.NoMemory due = tt
    by other due = absurd due

-- TRANSFORMED AND DECODED

-- the answer of a complete output, or NoMemory
as_done : (early : Option ℕ) (w : Why) → IsOrNoMemory (done_as early) w → IsDoneAsOrWanting early w
as_done None w (inl e) = subst (λ (v : Why). IsDoneAsOrWanting None v) (sym e) tt
as_done (Some n) w (inl e) = subst (λ (v : Why). IsDoneAsOrWanting (Some n) v) (sym e) refl
as_done None w (inr e) = subst (λ (v : Why). IsDoneAsOrWanting None v) (sym e) tt
as_done (Some n) w (inr e) = subst (λ (v : Why). IsDoneAsOrWanting (Some n) v) (sym e) tt

pub turned_certain : (a : TransformAsked) (old new : DeskState) (w : Why) → (has : HasPicture a old) → NoneRose old.counts new.counts → Transformed a old w new → IsDoneAsOrWanting has.early w
turned_certain a old new w has none turned =
    let input = name_of a.files.input in
    as_done has.early w (turn_answered a (done_as has.early) w old new (tells_files old input has.bytes has.told) (inr (
      has.scans,
      told_scans old a.scans has.scans has.asked,
      due_as Meaning (turning_conversion (turning_of a has.scans)) (picture_judged Coefficients) old has.early
          (record { value = has.meaning; bytes = has.bytes; file = is_file old.files input has.bytes has.told; means = (has.means, refl); is = has.admitted }),
    )) none turned)

pub shown_certain : (s : Showing) (old new : DeskState) (w : Why) → (has : HasImage s old) → NoneRose old.counts new.counts → Shown s old w new → IsDoneAsOrWanting has.early w
shown_certain s old new w has none shown =
    as_done has.early w (show_answered s (done_as has.early) w old new (tells_files old s.input has.bytes has.told)
    (due_as Meaning (showing_conversion s) (picture_judged (Image s.gray)) old has.early
    (record { value = has.meaning; bytes = has.bytes; file = is_file old.files s.input has.bytes has.told; means = (has.means, has.shown); is = refl }))
    none shown)

pub front_certain : (scans : ℕ) (s : Showing) (old new : DeskState) (w : Why) → (has : HasShownFront scans s old) → NoneRose old.counts new.counts → FrontShown scans s old w new → IsDoneAsOrWanting has.early w
front_certain scans s old new w has none shown =
    as_done has.early w (front_answered scans s (done_as has.early) w old new (tells_files old s.input has.bytes has.told)
    (due_as Meaning (front_conversion scans s) (front_judged scans s.gray) old has.early
    (record { value = has.meaning; bytes = has.bytes; file = is_file old.files s.input has.bytes has.told; means = (has.means, has.shown); is = refl }))
    none shown)

-- AND TRANSFORMED BACK

pub turned_back : (t : Transform) (M : Meaning) (w : WasTurnedBack t M) → MeanSame (text_back w) M
turned_back t M w =
    let means = subst (λ (u : Bool). MeansUpright u w.turning.choice w.picture) w.named w.turned.2 in
    (moved w.turning.choice w.picture, means, moved_back w.picture M t w.turning.choice w.made.whole w.back w.made.same)
