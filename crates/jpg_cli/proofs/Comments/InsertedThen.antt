-- What was done to insert a comment still holds after a message, and is the expected result if nothing failed.
use Rattle.std.proofs.Common.{◌≡◌, ℕ, List, [], ◌++◌, take, Option, refl, sym, ap, ◌∙◌, subst, arith, inl, inr}
use Rattle.std.proofs.lemmas.List.{append-nil}
use Rattle.jpg_base.specs.declared.names.Name.{Name}
use Rattle.jpg_base.specs.declared.names.Name.TheVariants as name
use Rattle.jpg_base.specs.declared.names.Put.TheVariants as put
use Rattle.jpg_base.specs.Desk.{DeskState}
use Rattle.jpg_spec.specs.declared.fault.FaultAt.{FaultAt}
use Rattle.jpg_spec_words.specs.declared.answers.Why.{Why}
use Rattle.jpg_spec_words.specs.declared.answers.Why.TheVariants as why
use Rattle.jpg_spec_words.specs.declared.answers.Which.TheVariants as which
use Rattle.jpg_spec.specs.Segments.{standard_limits}
use Rattle.jpg_spec_words.specs.CommentWords.{CommentSource, from_input, from_words, from_file}
use Rattle.jpg_desk.specs.Stays.{OnlySays}
use Rattle.jpg_desk.specs.Reading.{IsFile, rest_of}
use Rattle.jpg_cli.specs.Tools.InsertComment.{IsAtHead, IsFaultBefore, IsNoHead, inserted_texts}
use Rattle.jpg_cli.specs.Copies.{Copies}
use Rattle.jpg_desk.specs.Endings.{Copied}
use Rattle.jpg_cli.specs.Tools.CommentInserted.{EndsBeforeOutput, EndsWithOutput, Inserted, IsComment, IsCommentRead, IsInsertDue, IsShortComment, ReadsAlone, ReadsComment, ReadsInput, ReadsLast, Task, names_of, names_to_input, names_to_output, task_view}
use Rattle.jpg_words.specs.CommentWords.{comment_view, write_words_view}
use Rattle.jpg_words.specs.Files.{name_view}
use Rattle.jpg_words.specs.declared.comments.WriteWords.{WriteWords}
use Rattle.jpg_words.specs.Commands.{name_of}
use Rattle.jpg_cli.specs.Due.{NoneRose}
use Rattle.jpg_cli.specs.Run.{task_of}
use Rattle.jpg_desk.proofs.Endings.{bytes_then, copied_then, stopped_then, unopened_then, unread_then}
use Rattle.jpg_cli.proofs.Outcomes.Copies.{texts_then}
use Rattle.jpg_desk.proofs.Input.{part_still, read_still}

-- A MESSAGE THEN

input_then : (s0 s1 s2 : DeskState) (task : Task) (Is : List ℕ → Type 0) → OnlySays s1 s2 → ReadsInput task Is s0 s1 → ReadsInput task Is s0 s2
input_then s0 s1 s2 task Is k h = record { comment = h.comment; bytes = h.bytes; source = h.source; read = bytes_then s0 s1 s2 standard_limits.input task.input h.bytes k.same.left h.read; is = h.is }

reads_then : (s0 s1 s2 : DeskState) (task : Task) (Is : List ℕ → Type 0) → OnlySays s1 s2 → ReadsAlone task Is s0 s1 → ReadsAlone task Is s0 s2
reads_then s0 s1 s2 task Is k h = (stopped_then s0 s1 s2 (names_to_input task) put.Done k h.0, input_then s0 s1 s2 task Is k h.1)

output_then : (s0 s1 s2 : DeskState) (task : Task) (w : Why) → OnlySays s1 s2 → EndsWithOutput task s0 w s1 → EndsWithOutput task s0 w s2
output_then s0 s1 s2 task w k h =
    let names = names_of task.comment in
    let still = λ (Is : List ℕ → List ℕ → Type 0). copied_then s0 s1 s2 names task.input task.output Is k in
    record { comment = h.comment; source = h.source; copied = texts_then (inserted_texts h.comment task.replace) (Copied names task.input task.output) s0 s1 s2 k still w h.copied }

comment_read_then : (s1 s2 : DeskState) (source : CommentSource) (comment : List ℕ) → s2.left ≡ s1.left → IsCommentRead source comment s1 → IsCommentRead source comment s2
comment_read_then s1 s2 from_input comment e h = read_still 65001 comment s1 s2 e h
comment_read_then s1 s2 (from_words text) comment e h = tt
comment_read_then s1 s2 (from_file file) comment e h = read_still 65001 comment s1 s2 e h

reads_comment_then : (s0 s1 s2 : DeskState) (source : CommentSource) → s2.left ≡ s1.left → ReadsComment source s0 s1 → ReadsComment source s0 s2
reads_comment_then s0 s1 s2 from_input e h = part_still 65001 name.In s0 s1 s2 e h
reads_comment_then s0 s1 s2 (from_words text) e h = absurd h
reads_comment_then s0 s1 s2 (from_file file) e h = part_still 65001 (name.File file) s0 s1 s2 e h

reads_last_then : (s0 s1 s2 : DeskState) (task : Task) → s2.left ≡ s1.left → ReadsLast task s0 s1 → ReadsLast task s0 s2
reads_last_then s0 s1 s2 task e (inl same) = inl (e ∙ same)
reads_last_then s0 s1 s2 task e (inr (inl h)) = inr (inl (reads_comment_then s0 s1 s2 task.comment e h))
reads_last_then s0 s1 s2 task e (inr (inr (bytes, (few, is), before))) =
    let P : Option (List ℕ) → Type 0 = λ l. IsFile s0.files task.input (bytes ++ rest_of l) in
    inr (inr (bytes, (few, subst P (sym e) is), before))

refused_then : (s0 s1 s2 : DeskState) (task : Task) (f : FaultAt) → OnlySays s1 s2 → EndsBeforeOutput task s0 (why.Refused f) s1 → EndsBeforeOutput task s0 (why.Refused f) s2
refused_then s0 s1 s2 task f k (inl h) = inl (record {
  comment = h.comment;
  stopped = stopped_then s0 s1 s2 (names_of task.comment) put.Done k h.stopped;
  source = h.source;
  read = comment_read_then s1 s2 task.comment h.comment k.same.left h.read;
  long = h.long;
  fault = h.fault;
})
refused_then s0 s1 s2 task f k (inr h) =
    let P : Option (List ℕ) → Type 0 = λ l. ReadsAlone task (IsFaultBefore f (rest_of l)) s0 s2 in
    inr (subst P (sym k.same.left) (reads_then s0 s1 s2 task (IsFaultBefore f (rest_of s1.left)) k h))

before_then : (s0 s1 s2 : DeskState) (task : Task) (w : Why) → OnlySays s1 s2 → EndsBeforeOutput task s0 w s1 → EndsBeforeOutput task s0 w s2
before_then s0 s1 s2 task (why.Refused f) k h = refused_then s0 s1 s2 task f k h
before_then s0 s1 s2 task (why.OpenFault which.Input) k h = (unopened_then s0 s1 s2 (names_to_input task) k h.0, h.1)
before_then s0 s1 s2 task (why.OpenFault which.Comment) k h = (unopened_then s0 s1 s2 (names_of task.comment) k h.0, h.1)
before_then s0 s1 s2 task (why.OpenFault which.Output) k h = (unopened_then s0 s1 s2 (names_to_output task) k h.0, input_then s0 s1 s2 task IsAtHead k h.1)
before_then s0 s1 s2 task (why.ReadFault which.Input) k (h, rose) = (reads_then s0 s1 s2 task IsNoHead k h, (let f = k.stays.counts.reads in omega (arith, rose, f)))
before_then s0 s1 s2 task (why.ReadFault which.Comment) k h = record {
  unread = unread_then s0 s1 s2 (names_of task.comment) k h.unread;
  from = h.from;
  bytes = h.bytes;
  source = (h.source.0, (let P : Option (List ℕ) → Type 0 = λ l. IsComment s0 task.comment (h.bytes ++ rest_of l) in subst P (sym k.same.left) h.source.1));
}
before_then s0 s1 s2 task why.NoMemory k h = record {
  count = h.count;
  stopped = stopped_then s0 s1 s2 (take h.count (names_to_input task)) put.Done k h.stopped;
  read = reads_last_then s0 s1 s2 task k.same.left h.read;
}
before_then s0 s1 s2 task other k h = absurd h

pub inserted_then : (s0 s1 s2 : DeskState) (task : Task) (w : Why) → OnlySays s1 s2 → Inserted task s0 w s1 → Inserted task s0 w s2
inserted_then s0 s1 s2 task w k (inl h) = inl (before_then s0 s1 s2 task w k h)
inserted_then s0 s1 s2 task w k (inr h) = inr (output_then s0 s1 s2 task w k h)

-- WHERE NOTHING FAILED

whole_input : (s0 s1 : DeskState) (input : Name) (bytes : List ℕ) → IsFile s0.files input (bytes ++ rest_of s1.left) → rest_of s1.left ≡ [] → IsFile s0.files input bytes
whole_input s0 s1 input bytes h none =
    let e : bytes ++ rest_of s1.left ≡ bytes = ap (λ (rest : List ℕ). bytes ++ rest) none ∙ append-nil bytes in
    subst (λ (b : List ℕ). IsFile s0.files input b) e h

before_due : (s0 s1 : DeskState) (task : Task) (w : Why) → NoneRose s0.counts s1.counts → EndsBeforeOutput task s0 w s1 → IsInsertDue task s0 w
before_due s0 s1 task (why.Refused f) n (inl h) = inl (h.comment, h.source, h.long, h.fault)
before_due s0 s1 task (why.Refused f) n (inr (stopped, h)) = inr (h.comment, h.bytes ++ rest_of s1.left, h.source, h.read.1, inl h.is.0)
before_due s0 s1 task (why.OpenFault which.Input) n h = absurd (n.0 h.0.opens)
before_due s0 s1 task (why.OpenFault which.Comment) n h = absurd (n.0 h.0.opens)
before_due s0 s1 task (why.OpenFault which.Output) n h = absurd (n.0 h.0.opens)
before_due s0 s1 task (why.ReadFault which.Input) n h = absurd (n.1 h.1)
before_due s0 s1 task (why.ReadFault which.Comment) n h = absurd (n.1 h.unread.reads)
before_due s0 s1 task why.NoMemory n h = tt
before_due s0 s1 task other n h = absurd h

output_due : (s0 s1 : DeskState) (task : Task) (w : Why) (comment : List ℕ) → IsShortComment s0 task.comment comment → NoneRose s0.counts s1.counts
    → Copies (inserted_texts comment task.replace) (Copied (names_of task.comment) task.input task.output) s0 w s1 → IsInsertDue task s0 w
output_due s0 s1 task why.Done comment source n h = (comment, h.bytes, h.text, source, whole_input s0 s1 task.input h.bytes h.read.1 h.is.0, h.is.1)
output_due s0 s1 task (why.Refused f) comment source n h = inr (comment, h.bytes ++ rest_of s1.left, source, h.read.1, h.is.0)
output_due s0 s1 task (why.ReadFault which.Input) comment source n h = absurd (n.1 h.1)
output_due s0 s1 task why.WriteFault comment source n h = absurd (n.2 h.1)
output_due s0 s1 task why.NoMemory comment source n h = tt
output_due s0 s1 task other comment source n h = absurd h

pub insert_due : (s0 s1 : DeskState) (task : Task) (w : Why) → NoneRose s0.counts s1.counts → Inserted task s0 w s1 → IsInsertDue task s0 w
insert_due s0 s1 task w n (inl h) = before_due s0 s1 task w n h
insert_due s0 s1 task w n (inr h) = output_due s0 s1 task w h.comment h.source n h.copied

-- WHAT THE WORDS ASK FOR

pub same_name : (n : Name) → name_of (name_view n) ≡ n
same_name name.In = refl
same_name name.Out = refl
same_name (name.File text) = refl

-- The names in the words are those of the files.
pub asked_inserted : (words : WriteWords) (old new : DeskState) (w : Why) → Inserted (task_view words) old w new → Inserted (task_of (write_words_view words)) old w new
asked_inserted words old new w h =
    let to : Name → Name → Task = λ input output. record { comment = comment_view words.comment; input = input; output = output; replace = words.replace } in
    let P : Name → Type 0 = λ input. Inserted (to input words.files.output) old w new in
    let Q : Name → Type 0 = λ output. Inserted (to (name_of (name_view words.files.input)) output) old w new in
    subst Q (sym (same_name words.files.output)) (subst P (sym (same_name words.files.input)) h)
