-- What inserting a comment does, over the states of a desk.
use Rattle.std.proofs.Common.{◌⊎◌, ◌≡◌, ℕ, ◌<◌, ◌≤◌, Bool, true, false, List, [], ◌∷◌, ◌++◌, length, take, Option, None, Some, Result, Ok, Err, refl, sym, ap, ◌∙◌, subst, arith, inl, inr}
use Rattle.std.proofs.lemmas.List.{append-nil, length-append, length-take, take_all, take-append-le}
use Rattle.std.specs.Io.KnownBytes.{Consumes}
use Rattle.jpg_base.specs.declared.names.Name.{Name}
use Rattle.jpg_base.specs.declared.names.Name.TheVariants as name
use Rattle.jpg_base.specs.declared.names.Put.{Put}
use Rattle.jpg_base.specs.declared.names.Put.TheVariants as put
use Rattle.jpg_base.specs.Desk.{AddsOutput, AfterWrite, AppendsLast, Creates, DeskState, Opens, OpensFile, Rose}
use Rattle.jpg_base.specs.Laws.{AppendsPart-then, Consumes-then, Grows-from, NoneFell-then, NotesNames}
use Rattle.jpg_huff.specs.Out.{OnlyWrites}
use Rattle.jpg_spec.specs.Segments.{standard_limits}
use Rattle.jpg_spec_words.specs.CommentWords.{CommentSource, from_input, from_words, from_file, is_given}
use Rattle.jpg_spec.specs.declared.fault.Fault.{Fault}
use Rattle.jpg_spec.specs.declared.fault.Fault.TheVariants.{CommentTooLong}
use Rattle.jpg_spec.specs.declared.fault.FaultAt.{FaultAt}
use Rattle.jpg_spec_words.specs.declared.answers.Why.{Why}
use Rattle.jpg_spec_words.specs.declared.answers.Why.TheVariants as why
use Rattle.jpg_spec_words.specs.declared.answers.Which.TheVariants as which
use Rattle.jpg_comments.specs.WriteInserted.{HasInserted}
use Rattle.jpg_comments.specs.declared.insert.Insert.{Insert}
use Rattle.jpg_cli.specs.Tools.CommentInserted.{HoldsFor, Inserted, IsOutOfMemory, IsComment, IsCommentRead, IsReading, IsShortComment, IsWriting, ReadsAlone, ReadsComment, ReadsInput, ReadsLast, Task, names_of, names_to_input, names_to_output}
use Rattle.jpg_cli.specs.Copies.{Copies, HasCopied}
use Rattle.jpg_desk.specs.Endings.{Asks, Copied, Stopped, Unopened, Unread}
use Rattle.jpg_desk.proofs.Endings.{asks_next, asks_still}
use Rattle.jpg_desk.specs.CommentTaken.{AfterComment, AfterWords}
use Rattle.jpg_desk.specs.FileTaken.{AfterFile}
use Rattle.jpg_cli.specs.Tools.InsertComment.{AfterAll, AfterFed, AfterText, EndsBefore, IsAtHead, IsBeforeHead, IsBegunWith, IsFaultBefore, IsFileLess, IsFilePart, IsInsertedWhole, IsLongFile, IsNoHead, WritesRest, inserted_texts}
use Rattle.jpg_desk.specs.Stays.{Keeps, OnlyCopies, OnlyReads, Untouched}
use Rattle.jpg_desk.specs.Reading.{IsFile, ReadsPart, rest_of}
use Rattle.jpg_desk.proofs.Input.{file_read}
use Rattle.jpg_desk.proofs.PiecesRead.{copies_then, had_told, left_still, none_read, outputs_still}
use Rattle.jpg_desk.specs.Pump.{ReadsPiece, ended_as}
use Rattle.jpg_comments.specs.SegmentsSoFar.{Appends}
use Rattle.jpg_spec_write.specs.CommentText.{IsInserted}
use Rattle.jpg_cli.proofs.Comments.CommentsCopied.{copied, copied_still, text_added, writes_copy}
use Rattle.jpg_cli.proofs.Comments.InsertedCopied.{file_less, fed_part, fed_short, file_part, inserted_so_far, long_file, not_none, part_of_part}

-- READING

-- more bytes were read
pub reading_more : {task : Task} {comment bytes : List ℕ} (piece : List ℕ) {old s0 s1 : DeskState} → length (bytes ++ piece) ≤ standard_limits.input → IsReading task comment bytes old s0 → OnlyReads s0 s1 → Consumes s0.left s1.left piece → IsReading task comment (bytes ++ piece) old s1
reading_more {task} {bytes} piece {old} {s0} {s1} most r k more = record {
  most = most;
  left = r.left;
  names = asks_still old s0 s1 (names_to_input task) put.Done k.copies.asked r.names;
  source = r.source;
  opened = r.opened;
  read = Consumes-then r.left s0.left s1.left bytes piece r.read more;
  outputs = k.outputs ∙ r.outputs;
  counts = NoneFell-then old.counts s0.counts s1.counts r.counts k.copies.works.stays.counts;
}

-- THE OUTPUT

output_names : {task : Task} {comment bytes : List ℕ} {old s0 s1 : DeskState} {answer : Put} → IsReading task comment bytes old s0 → Creates s0 task.output answer s1 → Asks (names_to_output task) answer old s1
output_names {task} {old} {s0} {s1} {answer} r k = asks_next old s0 s1 (names_to_input task) task.output answer r.names k.asked

-- it wasn't created
uncreated : {task : Task} {comment bytes : List ℕ} {old s0 s1 : DeskState} → IsAtHead bytes → IsReading task comment bytes old s0 → Creates s0 task.output put.Failed s1 → Unopened (names_to_output task) old s1 × ReadsInput task IsAtHead old s1
uncreated {task} {comment} {bytes} {old} {s1} at r k =
    let P : Option (List ℕ) → Type 0 = λ l. Consumes r.left l bytes in (
      record { stopped = record { asked = output_names r k; outputs = k.after.1 ∙ r.outputs }; opens = (let rose = k.after.0 in let f = r.counts.opens in omega arith) },
      record { comment = comment; bytes = bytes; source = r.source; read = (r.most, file_read old.files task.input r.left s1.left bytes r.opened (subst P (sym k.left) r.read)); is = at },
    )

-- it was created, and this text written to it
written_first : {task : Task} {comment bytes : List ℕ} (text : List ℕ) {old s0 s1 s2 : DeskState} → IsReading task comment bytes old s0 → Creates s0 task.output put.Done s1 → OnlyWrites s1 s2 → AppendsLast s1.outputs text s2.outputs → IsWriting task comment bytes text old s2
written_first {task} {bytes} text {old} {s0} {s1} {s2} r k w appended = record {
  left = r.left;
  created = s1.outputs;
  names = asks_still old s1 s2 (names_to_output task) put.Done w.asked (output_names r k);
  source = r.source;
  opened = r.opened;
  read = (let P : Option (List ℕ) → Type 0 = λ l. Consumes r.left l bytes in subst P (sym (w.left ∙ k.left)) r.read);
  most = r.most;
  adds = (let P : Option (List (Name × List ℕ)) → Type 0 = λ o. AddsOutput o task.output s1.outputs in subst P r.outputs k.after.1);
  written = appended;
  counts = NoneFell-then old.counts s1.counts s2.counts (NoneFell-then old.counts s0.counts s1.counts r.counts k.counts) w.counts;
}

-- what was written is in the output when the run ends
copied_with : {task : Task} {comment bytes text : List ℕ} {old now : DeskState} (Is : List ℕ → List ℕ → Type 0) → IsWriting task comment bytes text old now → Is bytes text → Copied (names_of task.comment) task.input task.output Is old now
copied_with {task} {bytes} {text} {old} {now} Is w is = record {
  bytes = bytes;
  text = text;
  read = (w.most, file_read old.files task.input w.left now.left bytes w.opened w.read);
  wrote = record { asked = w.names; outputs = Grows-from old.outputs w.created now.outputs task.output text w.adds w.written };
  is = is;
}

with_output : {task : Task} {comment bytes text : List ℕ} {old now s : DeskState} (ended : Why) → IsWriting task comment bytes text old s → Copies (inserted_texts comment task.replace) (Copied (names_of task.comment) task.input task.output) old ended now
    → Inserted task old ended now
with_output {comment} ended w h = inr (record { comment = comment; source = w.source; copied = h })

-- A PIECE was taken, and its text written

abbrev pub AfterDue : Task → List ℕ → List ℕ → DeskState → Result Bool Why → Insert → DeskState → Type 0
AfterDue task comment bytes old (Ok false) c now = HoldsFor true task comment bytes old c now
AfterDue task comment bytes old (Ok true) c now = ⊥
AfterDue task comment bytes old (Err w) c now = Inserted task old w now

module _ {task : Task} {comment bytes : List ℕ} {old : DeskState} (text : List ℕ) (due : Result Bool Why) (c : Insert) (some : 0 < length text) (h : AfterFed comment task.replace bytes text due c) where
  pub all_written : {now : DeskState} → IsWriting task comment bytes text old now → AfterDue task comment bytes old due c now
  all_written {now} w = by due h
    where
      by : (due : Result Bool Why) → AfterFed comment task.replace bytes text due c → AfterDue task comment bytes old due c now
      by (Ok false) h = (text, some, h, w)
      by (Ok true) h = h
      by (Err (why.Refused f)) (of, inl (none, faults)) = absurd (not_none text none some)
      by (Err (why.Refused f)) (of, inr (long, is)) = with_output (why.Refused f) w (copied_with (IsLongFile comment task.replace f (rest_of now.left)) w (long_file comment bytes text (rest_of now.left) task.replace f of long is))
      by (Err why.NoMemory) h = with_output why.NoMemory w (copied_with (IsFileLess comment task.replace) w (file_less comment bytes text task.replace some h))
      by (Err other) h = absurd h

  -- only a part of it was
  pub part_written : {now : DeskState} (n : ℕ) → c.limits ≡ standard_limits → c.replace ≡ task.replace → IsWriting task comment bytes (take n text) old now → Rose old.counts.writes now.counts.writes → Inserted task old why.WriteFault now
  part_written n limits same w rose =
      with_output why.WriteFault w (copied_with (IsFilePart comment task.replace) w (part_of_part comment bytes text task.replace n (file_part comment bytes text task.replace some (fed_part comment bytes text task.replace due c limits same h))), rose)

-- the first one, for which the output was created; or it wasn't
pub first_uncreated : {task : Task} {comment bytes : List ℕ} {old s0 s1 : DeskState} → IsAtHead bytes → IsReading task comment bytes old s0 → Creates s0 task.output put.Failed s1 → Inserted task old (why.OpenFault which.Output) s1
first_uncreated at r k = inl (uncreated at r k)

pub first_due : {task : Task} {comment bytes : List ℕ} {old s0 now s1 : DeskState} (text : List ℕ) (due : Result Bool Why) (c : Insert) → 0 < length text → IsReading task comment bytes old s0 → AfterFed comment task.replace bytes text due c → (answer : Result Bool Why) (out : List ℕ) → c.limits ≡ standard_limits → c.replace ≡ task.replace
    → Creates s0 task.output put.Done now → WritesRest due text now answer out s1 → AfterDue task comment bytes old answer c s1
first_due {task} {comment} {bytes} {old} {s0} {now} {s1} text due c some r h answer out limits same k w = by w.wrote w.after
  where
    by : (wrote : Put) → AfterText due text now wrote answer s1 → AfterDue task comment bytes old answer c s1
    by put.Done (is, written) = subst (λ (a : Result Bool Why). AfterDue task comment bytes old a c s1) (sym is) (all_written text due c some h (written_first text r k w.only written))
    by put.Failed (is, (rose, (n, part))) =
        subst (λ (a : Result Bool Why). AfterDue task comment bytes old a c s1) (sym is)
        (part_written text due c some h n limits same (written_first (take n text) r k w.only part) (let f = r.counts.writes in let g = k.counts.writes in omega (arith, rose, f, g)))

-- and later ones

-- the desk as it would be if its output were known from its creation and its input from its opening
abbrev begun : {task : Task} {comment bytes text : List ℕ} {old now : DeskState} → IsWriting task comment bytes text old now → DeskState
begun {now} w = had_told w.left w.created now

module _ {task : Task} {comment bytes text : List ℕ} {old s0 : DeskState} (w : IsWriting task comment bytes text old s0) where
  copied_begun : HasCopied (begun w) bytes text s0
  copied_begun = record { most = w.most; read = w.read; written = w.written }

  -- more bytes were read, and their text written
  writing_more : {more all : List ℕ} {s1 : DeskState} → OnlyCopies s0 s1 → HasCopied (begun w) more all s1 → IsWriting task comment more all old s1
  writing_more {s1 = s1} k h = record {
    left = w.left;
    created = w.created;
    names = asks_still old s0 s1 (names_to_output task) put.Done k.asked w.names;
    source = w.source;
    opened = w.opened;
    read = h.read;
    most = h.most;
    adds = w.adds;
    written = h.written;
    counts = NoneFell-then old.counts s0.counts s1.counts w.counts k.works.stays.counts;
  }

  -- nothing was read or written
  pub writing_still : {s1 : DeskState} → OnlyReads s0 s1 → s1.left ≡ s0.left → IsWriting task comment bytes text old s1
  writing_still {s1} k left = writing_more k.copies (copied_still (begun w) s0 s1 bytes text copied_begun left k.outputs)

  module _ {piece : List ℕ} {s1 s2 : DeskState} (due : Result Bool Why) (c : Insert) (reads : ReadsPiece s0 piece s1) (most : length (bytes ++ piece) ≤ standard_limits.input) where
    pub later_due : (answer : Result Bool Why) (had out left : List ℕ) → c.limits ≡ standard_limits → c.replace ≡ task.replace → had ≡ [] → 0 < length text → Appends (λ all. AfterFed comment task.replace (bytes ++ piece) all due c) text had out → WritesRest due out s1 answer left s2
        → AfterDue task comment (bytes ++ piece) old answer c s2
    later_due answer had out left limits same empty some (more, is, h) wrote = by wrote.wrote wrote.after
      where
        added : more ≡ out
        added = text_added had out more empty is

        longer : 0 < length (text ++ more)
        longer = omega (arith, some, length-append text more)

        kept : OnlyCopies s0 s2
        kept = copies_then reads.kept.copies (writes_copy wrote.only)

        by : (put : Put) → AfterText due out s1 put answer s2 → AfterDue task comment (bytes ++ piece) old answer c s2
        by put.Done (e, written) =
            subst (λ (a : Result Bool Why). AfterDue task comment (bytes ++ piece) old a c s2) (sym e)
            (all_written (text ++ more) due c longer h (writing_more kept (copied piece more most copied_begun reads.read reads.kept.outputs wrote.only (subst (λ (m : List ℕ). AppendsLast s1.outputs m s2.outputs) (sym added) written))))
        by put.Failed (e, unwritten) =
            let w1 = subst (λ (m : List ℕ). AfterWrite s1 m put.Failed s2) (sym added) unwritten in
            let rose = w1.0 in
            let part = AppendsPart-then w.created s1.outputs s2.outputs text more (outputs_still s0 s1 text (begun w) reads.kept.outputs w.written) w1.1 in
            let read = left_still s1 s2 (bytes ++ piece) (begun w) wrote.only.left (Consumes-then w.left s0.left s1.left bytes piece w.read reads.read) in
            subst (λ (a : Result Bool Why). AfterDue task comment (bytes ++ piece) old a c s2) (sym e)
            (part_written (text ++ more) due c longer h part.0 limits same (writing_more kept (record { most = most; read = read; written = part.1 })) (let f = w.counts.writes in let g = reads.kept.copies.works.stays.counts.writes in omega (arith, rose, f, g)))

  -- where the input ends, or a read failed
  pub rest_ends : (answer : Result (Option ℕ) Why) → 0 < length text → rest_of s0.left ≡ [] → AfterAll comment task.replace bytes text answer → Inserted task old (ended_as answer) s0
  rest_ends (Ok None) some none h = with_output why.Done w (copied_with (λ all written. (rest_of s0.left ≡ []) × IsInsertedWhole comment task.replace all written) w (none, h))
  rest_ends (Ok (Some n)) some none h = absurd h
  rest_ends (Err (why.Refused f)) some none h = absurd (not_none text h.1 some)
  rest_ends (Err other) some none h = absurd h

  pub rest_unread : (c : Insert) → c.limits ≡ standard_limits → c.replace ≡ task.replace → 0 < length text → HasInserted comment bytes text c → Rose old.counts.reads s0.counts.reads → Inserted task old (why.ReadFault which.Input) s0
  rest_unread c limits same some h rose = with_output (why.ReadFault which.Input) w (
    copied_with (IsInsertedWhole comment task.replace) w (subst (λ (b : Bool). IsInserted standard_limits bytes comment b text) same (inserted_so_far comment bytes text c limits some h), fed_short comment bytes text c limits h),
    rose,
  )

-- WHERE NOTHING IS WRITTEN

-- what was read is the result when the run ends
reads_alone : {task : Task} {comment bytes : List ℕ} {old now : DeskState} (Is : List ℕ → Type 0) → IsReading task comment bytes old now → Is bytes → ReadsAlone task Is old now
reads_alone {task} {comment} {bytes} {old} {now} Is r is = (
  record { asked = r.names; outputs = r.outputs },
  record { comment = comment; bytes = bytes; source = r.source; read = (r.most, file_read old.files task.input r.left now.left bytes r.opened r.read); is = is },
)

-- nothing more was read
reading_still : {task : Task} {comment bytes : List ℕ} {old s0 s1 : DeskState} → IsReading task comment bytes old s0 → OnlyReads s0 s1 → s1.left ≡ s0.left → IsReading task comment bytes old s1
reading_still {task} {comment} {bytes} {old} {s0} {s1} r k same =
    let P : Option (List ℕ) → Type 0 = λ l. Consumes s0.left l [] in
    subst (λ (b : List ℕ). IsReading task comment b old s1) (append-nil bytes) (reading_more [] (let most = r.most in omega (arith, most, ap length (append-nil bytes))) r k (subst P (sym same) (none_read s0.left)))

out_of_memory : {task : Task} {comment bytes : List ℕ} {old now : DeskState} → IsBeforeHead bytes → IsReading task comment bytes old now → IsOutOfMemory task old now
out_of_memory {task} {bytes} {old} {now} h r =
    let due = names_to_input task in
    let N : List Name → Type 0 = λ names. Asks names put.Done old now in
    record {
      count = length due;
      stopped = record { asked = subst N (sym (take_all (length due) due (omega arith))) r.names; outputs = r.outputs };
      read = inr (inr (bytes, (r.most, file_read old.files task.input r.left now.left bytes r.opened r.read), h));
    }

pub ended_before : {task : Task} {comment bytes : List ℕ} {old s0 s1 : DeskState} (w : Why) → IsReading task comment bytes old s0 → OnlyReads s0 s1 → EndsBefore bytes s0 w s1 → Inserted task old w s1
ended_before {s1} (why.Refused f) r k (piece, more, most, is) =
    inl (inr (reads_alone (IsFaultBefore f (rest_of s1.left)) (reading_more piece most r k more) is))
ended_before (why.ReadFault which.Input) r k (same, nothing, rose) = inl (
  reads_alone IsNoHead (reading_still r k same) nothing,
  (let f = r.counts.reads in omega (arith, rose, f)),
)
ended_before why.NoMemory r k (piece, more, most, before) = inl (out_of_memory before (reading_more piece most r k more))
ended_before other r k h = absurd h

-- THE COMMENT

pub none_noted : (a b : Option (List (Name × Put))) → b ≡ a → NotesNames a [] b
none_noted a None e = tt
none_noted None (Some b) e = absurd (let z : Some b ≡ None = e in cc)
none_noted (Some a) (Some b) e = (let z : b ≡ a = (let y : Some b ≡ Some a = e in cc) in z ∙ sym (append-nil a))

-- The bytes of the words are taken as they are. If they are too long, so is a prefix of them.
pub took : (old now : DeskState) (source : CommentSource) (bytes : List ℕ) → AfterComment old source (Ok bytes) now
    → (comment : List ℕ) × IsComment old source comment × Asks (names_of source) put.Done old now × ((bytes ≡ comment) ⊎ (bytes ≡ take 65001 comment)) × IsCommentRead source comment now
took old now from_input bytes (names, is, front) = (bytes ++ rest_of now.left, is, names, inr front, ap (λ (b : List ℕ). b ++ rest_of now.left) front)
took old now (from_words text) bytes (same, e) = (text, refl, none_noted old.asked now.asked same.asked, inl e, tt)
took old now (from_file file) bytes (inl (names, is, front)) = (bytes ++ rest_of now.left, is, names, inr front, ap (λ (b : List ℕ). b ++ rest_of now.left) front)
took old now (from_file file) bytes (inr (e, same)) = absurd (let z : Ok bytes ≡ Err why.NoMemory = e in cc)

few_taken : (bytes all : List ℕ) → bytes ≡ take 65001 all → length bytes ≤ 65001
few_taken bytes all e = omega (arith, ap length e, length-take 65001 all)

-- what was read of it
comment_read : (old now : DeskState) (source : CommentSource) (bytes : List ℕ) → AfterComment old source (Ok bytes) now → (now.left ≡ old.left) ⊎ ReadsComment source old now
comment_read old now from_input bytes (names, is, front) = inr (bytes, (few_taken bytes (bytes ++ rest_of now.left) front, is))
comment_read old now (from_words text) bytes (same, e) = inl same.left
comment_read old now (from_file file) bytes (inl (names, is, front)) = inr (bytes, (few_taken bytes (bytes ++ rest_of now.left) front, is))
comment_read old now (from_file file) bytes (inr (e, same)) = absurd (let z : Ok bytes ≡ Err why.NoMemory = e in cc)

-- all of it was taken
all_taken : (bytes comment : List ℕ) → (bytes ≡ comment) ⊎ (bytes ≡ take 65001 comment) → length bytes ≤ 65000 → comment ≡ bytes
all_taken bytes comment (inl e) short = sym e
all_taken bytes comment (inr e) short = sym (e ∙ take_all 65001 comment (omega (arith, ap length e, length-take 65001 comment, short)))

short_comment : (old now : DeskState) (source : CommentSource) (bytes : List ℕ) → AfterComment old source (Ok bytes) now → length bytes ≤ 65000 → IsShortComment old source bytes
short_comment old now source bytes h short =
    let t = took old now source bytes h in (subst (λ (b : List ℕ). IsComment old source b) (all_taken bytes t.0 t.3 short) t.1, short)

long_comment : (bytes comment : List ℕ) → (bytes ≡ comment) ⊎ (bytes ≡ take 65001 comment) → 65000 < length bytes → 65000 < length comment
long_comment bytes comment (inl e) long = omega (arith, ap length e, long)
long_comment bytes comment (inr e) long = omega (arith, ap length e, length-take 65001 comment, long)

same_fault : (f : FaultAt) → f.fault ≡ CommentTooLong → f.at ≡ 65001 → f ≡ record { fault = CommentTooLong; at = 65001 }
same_fault f fault at = ap (λ (x : Fault). (let y : FaultAt = record { fault = x; at = f.at } in y)) fault ∙ ap (λ (n : ℕ). (let y : FaultAt = record { fault = CommentTooLong; at = n } in y)) at

comment_long : (task : Task) (old now : DeskState) (bytes : List ℕ) (f : FaultAt) → Keeps old now → AfterComment old task.comment (Ok bytes) now → f.fault ≡ CommentTooLong → f.at ≡ 65001 → 65000 < length bytes → Inserted task old (why.Refused f) now
comment_long task old now bytes f k h fault at long =
    let t = took old now task.comment bytes h in
    inl (inl (record { comment = t.0; stopped = record { asked = t.2; outputs = k.outputs }; source = t.1; read = t.4; long = long_comment bytes t.0 t.3 long; fault = same_fault f fault at }))

front_of : (xs ys : List Name) → take (length xs) (xs ++ ys) ≡ xs
front_of xs ys = take-append-le (length xs) xs ys (omega arith) ∙ take_all (length xs) xs (omega arith)

comment_last : (task : Task) (old now : DeskState) → (now.left ≡ old.left) ⊎ ReadsComment task.comment old now → ReadsLast task old now
comment_last task old now (inl same) = inl same
comment_last task old now (inr read) = inr (inl read)

-- it was taken, and then there was no memory
comment_only : (task : Task) (old now : DeskState) (bytes : List ℕ) → Keeps old now → AfterComment old task.comment (Ok bytes) now → Inserted task old why.NoMemory now
comment_only task old now bytes k h =
    let names = names_of task.comment in
    let N : List Name → Type 0 = λ names. Asks names put.Done old now in
    inl (record {
      count = length names;
      stopped = record { asked = subst N (sym (front_of names (task.input ∷ []))) (took old now task.comment bytes h).2; outputs = k.outputs };
      read = comment_last task old now (comment_read old now task.comment bytes h);
    })

pub not_begun : (task : Task) (old now : DeskState) (bytes : List ℕ) (w : Why) → Keeps old now → AfterComment old task.comment (Ok bytes) now → IsBegunWith bytes task.replace (Err w) → Inserted task old w now
not_begun task old now bytes (why.Refused f) k h b = comment_long task old now bytes f k h b.0 b.1 b.2
not_begun task old now bytes why.NoMemory k h b = comment_only task old now bytes k h
not_begun task old now bytes other k h b = absurd b

-- WHERE IT WASN'T TAKEN

file_untaken : (task : Task) (old now : DeskState) (file : Name) (w : Why) → is_given task.comment ≡ false → names_of task.comment ≡ file ∷ [] → ((bytes : List ℕ) → IsFile old.files file bytes → IsComment old task.comment bytes)
    → (ReadsPart 65001 file old now → ReadsComment task.comment old now) → Keeps old now → AfterFile file 65001 which.Comment old (Err w) now → Inserted task old w now
file_untaken task old now file (why.OpenFault which.Comment) from same is part k h = inl (subst (λ (names : List Name). Unopened names old now) (sym same) h.1, from)
file_untaken task old now file (why.OpenFault which.Input) from same is part k h = absurd (let z : which.Input ≡ which.Comment = h.0 in cc)
file_untaken task old now file (why.OpenFault which.Script) from same is part k h = absurd (let z : which.Script ≡ which.Comment = h.0 in cc)
file_untaken task old now file (why.OpenFault which.Tables) from same is part k h = absurd (let z : which.Tables ≡ which.Comment = h.0 in cc)
file_untaken task old now file (why.OpenFault which.Output) from same is part k h = absurd (let z : which.Output ≡ which.Comment = h.0 in cc)
file_untaken task old now file (why.ReadFault which.Comment) from same is part k h = inl (record {
  bytes = h.2.0;
  unread = subst (λ (names : List Name). Unread names old now) (sym same) h.1;
  from = from;
  source = (h.2.1.0, is (h.2.0 ++ rest_of now.left) h.2.1.1);
})
file_untaken task old now file (why.ReadFault which.Input) from same is part k h = absurd (let z : which.Input ≡ which.Comment = h.0 in cc)
file_untaken task old now file (why.ReadFault which.Script) from same is part k h = absurd (let z : which.Script ≡ which.Comment = h.0 in cc)
file_untaken task old now file (why.ReadFault which.Tables) from same is part k h = absurd (let z : which.Tables ≡ which.Comment = h.0 in cc)
file_untaken task old now file (why.ReadFault which.Output) from same is part k h = absurd (let z : which.Output ≡ which.Comment = h.0 in cc)
file_untaken task old now file why.NoMemory from same is part k h =
    let first : file ∷ [] ≡ take 1 (names_to_input task) = ap (λ (names : List Name). take 1 (names ++ task.input ∷ [])) (sym same) in
    inl (record { count = 1; stopped = subst (λ (names : List Name). Stopped names put.Done old now) first h.0; read = inr (inl (part h.1)) })
file_untaken task old now file other from same is part k h = absurd h

nothing_asked : (task : Task) (old now : DeskState) → Keeps old now → Untouched old now → Inserted task old why.NoMemory now
nothing_asked task old now k same = inl (record { count = 0; stopped = record { asked = none_noted old.asked now.asked same.asked; outputs = k.outputs }; read = inl same.left })

words_untaken : (task : Task) (old now : DeskState) (text : List ℕ) (w : Why) → Keeps old now → AfterWords old text (Err w) now → Inserted task old w now
words_untaken task old now text why.NoMemory k h = nothing_asked task old now k h
words_untaken task old now text other k h = absurd h

untaken_from : (source : CommentSource) (input output : Name) (replace : Bool) (old now : DeskState) (w : Why) → Keeps old now → AfterComment old source (Err w) now
    → Inserted (record { comment = source; input = input; output = output; replace = replace }) old w now
untaken_from from_input input output replace old now w k h = file_untaken (record { comment = from_input; input = input; output = output; replace = replace }) old now name.In w refl refl (λ bytes is. is) (λ part. part) k h
untaken_from (from_words text) input output replace old now w k h = words_untaken (record { comment = from_words text; input = input; output = output; replace = replace }) old now text w k h
untaken_from (from_file file) input output replace old now w k (inl h) =
    file_untaken (record { comment = from_file file; input = input; output = output; replace = replace }) old now (name.File file) w refl refl (λ bytes is. is) (λ part. part) k h
untaken_from (from_file file) input output replace old now w k (inr (e, same)) =
    let task : Task = record { comment = from_file file; input = input; output = output; replace = replace } in
    subst (λ (v : Why). Inserted task old v now) (let z : why.NoMemory ≡ w = cc in z) (nothing_asked task old now k same)

pub comment_untaken : (task : Task) (old now : DeskState) (w : Why) → Keeps old now → AfterComment old task.comment (Err w) now → Inserted task old w now
comment_untaken task old now w k h = untaken_from task.comment task.input task.output task.replace old now w k h

-- THE INPUT

input_names : (task : Task) (old s1 s2 : DeskState) (bytes : List ℕ) (answer : Put) → AfterComment old task.comment (Ok bytes) s1 → Opens s1 task.input answer s2 → Asks (names_to_input task) answer old s2
input_names task old s1 s2 bytes answer h o = asks_next old s1 s2 (names_of task.comment) task.input answer (took old s1 task.comment bytes h).2 o.asked

pub input_unopened : (task : Task) (old s1 s2 : DeskState) (bytes : List ℕ) → Keeps old s1 → AfterComment old task.comment (Ok bytes) s1 → length bytes ≤ 65000 → Opens s1 task.input put.Failed s2 → Inserted task old (why.OpenFault which.Input) s2
input_unopened task old s1 s2 bytes k h short o = inl (
  record {
    stopped = record { asked = input_names task old s1 s2 bytes put.Failed h o; outputs = o.outputs ∙ k.outputs };
    opens = (let rose = o.after.0 in let f = k.works.stays.counts.opens in omega (arith, rose, f));
  },
  (bytes, short_comment old s1 task.comment bytes h short),
)

pub input_opened : (task : Task) (old s1 s2 : DeskState) (bytes : List ℕ) → Keeps old s1 → AfterComment old task.comment (Ok bytes) s1 → length bytes ≤ 65000 → Opens s1 task.input put.Done s2 → IsReading task bytes [] old s2
input_opened task old s1 s2 bytes k h short o = record {
  left = s2.left;
  names = input_names task old s1 s2 bytes put.Done h o;
  source = short_comment old s1 task.comment bytes h short;
  opened = (let P : Option (Name → Option (List ℕ)) → Type 0 = λ files. OpensFile files task.input s2.left in subst P k.works.stays.files o.after.2);
  read = none_read s2.left;
  most = omega arith;
  outputs = o.outputs ∙ k.outputs;
  counts = NoneFell-then old.counts s1.counts s2.counts k.works.stays.counts o.counts;
}
