-- WHAT INSERTING A COMMENT into a file does to a desk (T.81, B.2.4.5, the manual of wrjpgcom in release 6b), by why it
-- ended.
use Rattle.std.specs.Prelude.{◌≡◌, ◌⊎◌, ℕ, ◌<◌, ◌≤◌, Bool, true, false, List, [], ◌∷◌, ◌++◌, length, take, Option, Result, ◌+◌}
use Rattle.std.specs.Io.KnownBytes.{Consumes}
use Rattle.jpg_base.specs.declared.names.Name.{Name}
use Rattle.jpg_base.specs.declared.names.Name.TheVariants as name
use Rattle.jpg_base.specs.declared.names.Put.TheVariants as put
use Rattle.jpg_base.specs.Desk.{AddsOutput, AppendsLast, DeskState, NoneFell, OpensFile, Rose}
use Rattle.jpg_spec.specs.Segments.{standard_limits}
use Rattle.jpg_spec_write.specs.CommentText.{IsInsertFault, longest_comment}
use Rattle.jpg_spec_words.specs.CommentWords.{CommentSource, from_input, from_words, from_file, is_given}
use Rattle.jpg_spec.specs.declared.fault.Fault.TheVariants.{CommentTooLong}
use Rattle.jpg_spec.specs.declared.fault.FaultAt.{FaultAt}
use Rattle.jpg_spec_words.specs.declared.answers.Why.{Why}
use Rattle.jpg_spec_words.specs.declared.answers.Why.TheVariants as why
use Rattle.jpg_spec_words.specs.declared.answers.Which.TheVariants as which
use Rattle.jpg_comments.specs.WriteInserted.{insert_limits, is_replacing, HasInserted}
use Rattle.jpg_comments.specs.declared.insert.Insert.{Insert}
use Rattle.jpg_words.specs.CommentWords.{comment_view}
use Rattle.jpg_words.specs.declared.comments.WriteWords.{WriteWords}
use Rattle.jpg_desk.specs.Pump.{FedKind, ended_as}
use Rattle.jpg_desk.specs.Stays.{OnlyWorks}
use Rattle.jpg_cli.specs.declared.tools.wrjpgcom.InsertSink.{InsertSink}
use Rattle.jpg_cli.specs.Tools.InsertComment.{IsAtHead, IsBeforeHead, IsFaultBefore, IsNoHead, IsInsertedWhole, inserted_texts}
use Rattle.jpg_cli.specs.Copies.{Copies}
use Rattle.jpg_desk.specs.Endings.{Asks, Copied, Stopped, Unopened, Unread}
use Rattle.jpg_desk.specs.Reading.{IsFile, IsReadTo, ReadsBytes, ReadsPart, rest_of}

-- which comment is inserted into which file, and where the result goes; whether it replaces the comments before the
-- frame header
pub record Task : Type 0 where
  pub comment : CommentSource
  pub input : Name
  pub output : Name
  pub replace : Bool

abbrev pub task_view : WriteWords → Task
task_view words = record { comment = comment_view words.comment; input = words.files.input; output = words.files.output; replace = words.replace }

-- THE NAMES that are opened or created: the comment's file if it comes from one, the input, and then the output

abbrev pub names_of : CommentSource → List Name
names_of from_input = name.In ∷ []
names_of (from_words text) = []
names_of (from_file file) = name.File file ∷ []

abbrev pub names_to_input : Task → List Name
names_to_input task = names_of task.comment ++ task.input ∷ []

abbrev pub names_to_output : Task → List Name
names_to_output task = names_to_input task ++ task.output ∷ []

-- THE COMMENT

-- If the files are known, it is this one.
abbrev pub IsComment : DeskState → CommentSource → List ℕ → Type 0
IsComment old from_input comment = IsFile old.files name.In comment
IsComment old (from_words text) comment = comment ≡ text
IsComment old (from_file file) comment = IsFile old.files (name.File file) comment

-- It is no longer than a comment may be.
abbrev pub IsShortComment : DeskState → CommentSource → List ℕ → Type 0
IsShortComment old source comment = IsComment old source comment × (length comment ≤ longest_comment)

-- The bytes are a prefix of it, no longer than a comment may be, followed by those that are left.
abbrev pub IsShortFront : DeskState → CommentSource → List ℕ → DeskState → Type 0
IsShortFront old source bytes new = (length bytes ≤ longest_comment) × IsComment old source (bytes ++ rest_of new.left)

-- the fault of a longer one
abbrev pub too_long : FaultAt
too_long = record { fault = CommentTooLong; at = longest_comment + 1 }

-- If it comes from a file, that was read up to one byte more than a comment may have, and the others are left.
abbrev pub IsCommentRead : CommentSource → List ℕ → DeskState → Type 0
IsCommentRead from_input comment new = IsReadTo (longest_comment + 1) comment new
IsCommentRead (from_words text) comment new = Unit {0}
IsCommentRead (from_file file) comment new = IsReadTo (longest_comment + 1) comment new

-- Bytes of the file that it comes from were read, no more than that.
abbrev pub ReadsComment : CommentSource → DeskState → DeskState → Type 0
ReadsComment from_input old new = ReadsPart (longest_comment + 1) name.In old new
ReadsComment (from_words text) old new = ⊥
ReadsComment (from_file file) old new = ReadsPart (longest_comment + 1) (name.File file) old new

-- THE STATE when the run ended

-- The comment was taken, and these bytes of the input, no more than may be, were read; this holds of them.
pub record ReadsInput (task : Task) (Is : List ℕ → Type 0) (old new : DeskState) : Type 0 where
  pub comment : List ℕ
  pub bytes : List ℕ
  pub source : IsShortComment old task.comment comment
  pub read : ReadsBytes standard_limits.input task.input bytes old new
  pub is : Is bytes

-- No output was created.
abbrev pub ReadsAlone : Task → (List ℕ → Type 0) → DeskState → DeskState → Type 0
ReadsAlone task Is old new = Stopped (names_to_input task) put.Done old new × ReadsInput task Is old new

-- the comment is too long; the input wasn't opened
pub record IsCommentLong (task : Task) (f : FaultAt) (old new : DeskState) : Type 0 where
  pub comment : List ℕ
  pub stopped : Stopped (names_of task.comment) put.Done old new
  pub source : IsComment old task.comment comment
  pub read : IsCommentRead task.comment comment new
  pub long : longest_comment < length comment
  pub fault : f ≡ too_long

-- the comment, which comes from a file, wasn't read after these bytes of it, which are no more than a comment may have
pub record IsCommentUnread (task : Task) (old new : DeskState) : Type 0 where
  pub bytes : List ℕ
  pub unread : Unread (names_of task.comment) old new
  pub from : is_given task.comment ≡ false
  pub source : IsShortFront old task.comment bytes new

-- Bytes of the input were read, no more than may be, and no piece after a fault or the frame header's marker.
abbrev pub ReadsHead : Name → DeskState → DeskState → Type 0
ReadsHead input old new = (bytes : List ℕ) × ReadsBytes standard_limits.input input bytes old new × IsBeforeHead bytes

-- No file was opened; or of the one that was opened last, no more bytes were read than may be.
abbrev pub ReadsLast : Task → DeskState → DeskState → Type 0
ReadsLast task old new = (new.left ≡ old.left) ⊎ (ReadsComment task.comment old new ⊎ ReadsHead task.input old new)

-- there was no memory before an output was created; the names that were opened are the first of those in the list
pub record IsOutOfMemory (task : Task) (old new : DeskState) : Type 0 where
  pub count : ℕ
  pub stopped : Stopped (take count (names_to_input task)) put.Done old new
  pub read : ReadsLast task old new

-- WITHOUT AN OUTPUT, by why it ended
abbrev pub EndsBeforeOutput : Task → DeskState → Why → DeskState → Type 0
EndsBeforeOutput task old (why.Refused f) new = IsCommentLong task f old new ⊎ ReadsAlone task (IsFaultBefore f (rest_of new.left)) old new
EndsBeforeOutput task old (why.OpenFault which.Comment) new = Unopened (names_of task.comment) old new × (is_given task.comment ≡ false)
EndsBeforeOutput task old (why.OpenFault which.Input) new =
    Unopened (names_to_input task) old new × ((comment : List ℕ) × IsShortComment old task.comment comment)
EndsBeforeOutput task old (why.OpenFault which.Output) new = Unopened (names_to_output task) old new × ReadsInput task IsAtHead old new
EndsBeforeOutput task old (why.ReadFault which.Comment) new = IsCommentUnread task old new
EndsBeforeOutput task old (why.ReadFault which.Input) new = ReadsAlone task IsNoHead old new × Rose old.counts.reads new.counts.reads
EndsBeforeOutput task old why.NoMemory new = IsOutOfMemory task old new
EndsBeforeOutput task old other new = ⊥

-- WITH AN OUTPUT: the comment was taken, and the input was copied with it, or some of it.
pub record EndsWithOutput (task : Task) (old : DeskState) (ended : Why) (new : DeskState) : Type 0 where
  pub comment : List ℕ
  pub source : IsShortComment old task.comment comment
  pub copied : Copies (inserted_texts comment task.replace) (Copied (names_of task.comment) task.input task.output) old ended new

-- THE RESULTS
abbrev pub Inserted : Task → DeskState → Why → DeskState → Type 0
Inserted task old ended new = EndsBeforeOutput task old ended new ⊎ EndsWithOutput task old ended new

-- If no count of open, read or write rose, the result is that of the comment and the input, or NoMemory.

abbrev pub HasLongComment : Task → FaultAt → DeskState → Type 0
HasLongComment task f old = (comment : List ℕ) × IsComment old task.comment comment × (longest_comment < length comment) × (f ≡ too_long)

abbrev pub HasInputFault : Task → FaultAt → DeskState → Type 0
HasInputFault task f old =
    (comment : List ℕ) × (bytes : List ℕ) × IsShortComment old task.comment comment × IsFile old.files task.input bytes
    × IsInsertFault standard_limits bytes f.fault f.at

abbrev pub IsInsertDue : Task → DeskState → Why → Type 0
IsInsertDue task old why.Done =
    (comment : List ℕ) × (bytes : List ℕ) × (text : List ℕ) × IsShortComment old task.comment comment × IsFile old.files task.input bytes
    × IsInsertedWhole comment task.replace bytes text
IsInsertDue task old (why.Refused f) = HasLongComment task f old ⊎ HasInputFault task f old
IsInsertDue task old why.NoMemory = Unit {0}
IsInsertDue task old other = ⊥

-- STEP BY STEP, from a desk as it was when the run began

-- The comment was taken, the input is open, and these bytes of it were read; no output was created.
pub record IsReading (task : Task) (comment bytes : List ℕ) (old now : DeskState) : Type 0 where
  pub left : Option (List ℕ)
  pub names : Asks (names_to_input task) put.Done old now
  pub source : IsShortComment old task.comment comment
  pub opened : OpensFile old.files task.input left
  pub read : Consumes left now.left bytes
  pub most : length bytes ≤ standard_limits.input
  pub outputs : now.outputs ≡ old.outputs
  pub counts : NoneFell old.counts now.counts

-- The output was created too, and has this text.
pub record IsWriting (task : Task) (comment bytes text : List ℕ) (old now : DeskState) : Type 0 where
  pub left : Option (List ℕ)
  pub created : Option (List (Name × List ℕ))
  pub names : Asks (names_to_output task) put.Done old now
  pub source : IsShortComment old task.comment comment
  pub opened : OpensFile old.files task.input left
  pub read : Consumes left now.left bytes
  pub most : length bytes ≤ standard_limits.input
  pub adds : AddsOutput old.outputs task.output created
  pub written : AppendsLast created text now.outputs
  pub counts : NoneFell old.counts now.counts

-- The input was opened for a task, and none of it read.
pub record IsBegunFor (task : Task) (comment : List ℕ) (start : DeskState) (place : Name) (c : Insert) (now : DeskState) : Type 0 where
  pub output : task.output ≡ place
  pub replace : task.replace ≡ is_replacing c
  pub inserts : HasInserted comment [] [] c
  pub reading : IsReading task comment [] start now

-- ALL PIECES, by whether the output was created, which is when the marker of the frame header was read

abbrev pub HoldsFor : Bool → Task → List ℕ → List ℕ → DeskState → Insert → DeskState → Type 0
HoldsFor false task comment bytes start c now = HasInserted comment bytes [] c × IsReading task comment bytes start now
HoldsFor true task comment bytes start c now = (text : List ℕ) × (0 < length text) × HasInserted comment bytes text c × IsWriting task comment bytes text start now

abbrev pub IsTaskOf : Task → List ℕ → DeskState → InsertSink × DeskState → Type 0
IsTaskOf task comment start from = IsBegunFor task comment start from.0.output.now from.0.insert from.1

pub record IsInserting (from : InsertSink × DeskState) (bytes : List ℕ) (now : InsertSink × DeskState) : Type 0 where
  pub some : (task : Task) × (comment : List ℕ) × (start : DeskState) × IsTaskOf task comment start from
  pub holds : (task : Task) (comment : List ℕ) (start : DeskState) → IsTaskOf task comment start from → HoldsFor now.0.created task comment bytes start now.0.insert now.1
  pub limits : insert_limits now.0.insert ≡ standard_limits
  pub replace : is_replacing now.0.insert ≡ is_replacing from.0.insert
  pub output : now.0.output.now ≡ from.0.output.now
  pub empty : now.0.out ≡ []
  pub works : OnlyWorks from.1 now.1
  pub created : now.0.created ≡ true → now.1.output_created ≡ true

abbrev pub EndsInsertion : InsertSink × DeskState → Result (Option ℕ) Why → InsertSink × DeskState → Type 0
EndsInsertion from answer now =
    OnlyWorks from.1 now.1 × ((task : Task) (comment : List ℕ) (start : DeskState) → IsTaskOf task comment start from → Inserted task start (ended_as answer) now.1)

abbrev pub insert_kind : FedKind InsertSink
insert_kind = record { most = λ s. standard_limits.input; fed = IsInserting; ended = EndsInsertion }

-- FOR ALL TASKS of this output and kind, comments and desks as they were when the run began
abbrev pub EndsTask : Name → Insert → DeskState → Why → DeskState → Type 0
EndsTask output had old ended now = (task : Task) (comment : List ℕ) (start : DeskState) → IsBegunFor task comment start output had old → Inserted task start ended now
