-- HOW A FILE WITH A COMMENT INSERTED is written piece by piece (T.81, B.2.4.5, the manual of wrjpgcom in release 6b).
use Rattle.std.specs.Prelude.{◌≡◌, ◌⊎◌, ℕ, ◌<◌, ◌≤◌, ◌+◌, Bool, true, false, List, [], ◌++◌, length, take, Option, None, Result, Ok, Err}
use Rattle.std.specs.Io.KnownBytes.{Consumes}
use Rattle.jpg_base.specs.declared.names.Put.{Put}
use Rattle.jpg_base.specs.declared.names.Put.TheVariants as put
use Rattle.jpg_base.specs.Desk.{AfterWrite, DeskState, Rose}
use Rattle.jpg_huff.specs.Out.{OnlyWrites}
use Rattle.jpg_spec.specs.Segments.{standard_limits}
use Rattle.jpg_spec_write.specs.CommentText.{IsHeadFault, IsInsertFault, IsInserted, RevealsNothing, longest_comment}
use Rattle.jpg_spec.specs.declared.fault.Fault.TheVariants.{CommentTooLong, InputTooLong}
use Rattle.jpg_spec.specs.declared.fault.FaultAt.{FaultAt}
use Rattle.jpg_spec_words.specs.declared.answers.Why.{Why}
use Rattle.jpg_spec_words.specs.declared.answers.Why.TheVariants as why
use Rattle.jpg_spec_words.specs.declared.answers.Which.TheVariants as which
use Rattle.jpg_comments.specs.Inserting.{HoldsHead, InsertsToFault}
use Rattle.jpg_comments.specs.SegmentsSoFar.{Appends}
use Rattle.jpg_comments.specs.WriteInserted.{is_replacing, HasInserted}
use Rattle.jpg_comments.specs.declared.insert.Insert.{Insert}
use Rattle.jpg_cli.specs.Copies.{Copies, CopiesText, CopyTexts}
use Rattle.jpg_desk.specs.Reading.{rest_of}

-- A new inserter, with a comment that isn't too long; or there is none.
abbrev pub IsBegunWith : List ℕ → Bool → Result Insert Why → Type 0
IsBegunWith comment replace (Ok c) = (length comment ≤ longest_comment) × HasInserted comment [] [] c × (c.limits ≡ standard_limits) × (c.replace ≡ replace)
IsBegunWith comment replace (Err (why.Refused f)) = (f.fault ≡ CommentTooLong) × (f.at ≡ longest_comment + 1) × (longest_comment < length comment)
IsBegunWith comment replace (Err why.NoMemory) = Unit {0}
IsBegunWith comment replace (Err other) = ⊥

-- A prefix of the bytes, all of them but the last 65,536 at most, has neither a fault nor the frame header's marker.
abbrev pub IsBeforeHead : List ℕ → Type 0
IsBeforeHead bytes =
    (front : ℕ) × (front ≤ length bytes) × (length bytes ≤ front + 65536) × RevealsNothing standard_limits (HoldsHead standard_limits) (take front bytes)

-- a first part of the file with the comment inserted, from a prefix of the bytes that has that marker; something of the
-- file is left
abbrev pub IsFileLess : List ℕ → Bool → List ℕ → List ℕ → Type 0
IsFileLess comment replace bytes text =
    (n : ℕ) × (front : ℕ) × (whole : List ℕ) × IsInserted standard_limits (take front bytes) comment replace whole × (text ≡ take n whole) × (n < length whole)

-- A piece was taken: the text for all the bytes so far, or why the writing ends.
abbrev pub AfterFed : List ℕ → Bool → List ℕ → List ℕ → Result Bool Why → Insert → Type 0
AfterFed comment replace bytes text (Ok false) c = HasInserted comment bytes text c
AfterFed comment replace bytes text (Ok true) c = ⊥
AfterFed comment replace bytes text (Err (why.Refused f)) c = InsertsToFault standard_limits comment replace bytes text f
AfterFed comment replace bytes text (Err why.NoMemory) c = (text ≡ []) ⊎ IsFileLess comment replace bytes text
AfterFed comment replace bytes text (Err other) c = ⊥

-- for all bytes that were read before, and the text that was appended for them
abbrev pub InsertsPiece : Insert → List ℕ → List ℕ → Result Bool Why → List ℕ → Insert → Type 0
InsertsPiece had piece old due out c =
    (comment bytes text : List ℕ) → HasInserted comment bytes text had
    → Appends (λ all. AfterFed comment (is_replacing had) (bytes ++ piece) all due c) text old out

-- the bytes end: the complete file was written, or it has a fault before the frame header
abbrev pub AfterAll : List ℕ → Bool → List ℕ → List ℕ → Result (Option ℕ) Why → Type 0
AfterAll comment replace bytes text (Ok None) = IsInserted standard_limits bytes comment replace text × (length bytes < standard_limits.input)
AfterAll comment replace bytes text (Err (why.Refused f)) = IsHeadFault standard_limits bytes f.fault f.at × (text ≡ [])
AfterAll comment replace bytes text other = ⊥

-- The pending text was written, and this was due then; or it wasn't written.
abbrev pub AfterText : Result Bool Why → List ℕ → DeskState → Put → Result Bool Why → DeskState → Type 0
AfterText due text old put.Done answer new = (answer ≡ due) × AfterWrite old text put.Done new
AfterText due text old put.Failed answer new = (answer ≡ Err why.WriteFault) × AfterWrite old text put.Failed new

pub record WritesRest (due : Result Bool Why) (text : List ℕ) (old : DeskState) (answer : Result Bool Why) (out : List ℕ) (new : DeskState) : Type 0 where
  pub wrote : Put
  pub only : OnlyWrites old new
  pub after : AfterText due text old wrote answer new
  pub empty : out ≡ []

-- THE TEXT after the frame header's marker, by the bytes that were read

-- the complete file with the comment inserted, from fewer bytes than may be taken
abbrev pub IsInsertedWhole : List ℕ → Bool → List ℕ → List ℕ → Type 0
IsInsertedWhole comment replace bytes text = IsInserted standard_limits bytes comment replace text × (length bytes < standard_limits.input)

-- a first part of the file with the comment inserted, from a prefix of the bytes that has the frame header's marker
abbrev pub IsFilePart : List ℕ → Bool → List ℕ → List ℕ → Type 0
IsFilePart comment replace bytes text =
    (n : ℕ) × (front : ℕ) × (whole : List ℕ) × IsInserted standard_limits (take front bytes) comment replace whole × (text ≡ take n whole)

-- the file of as many bytes as may be taken with the comment inserted, where this rest follows the bytes
abbrev pub IsLongFile : List ℕ → Bool → FaultAt → List ℕ → List ℕ → List ℕ → Type 0
IsLongFile comment replace f rest bytes text =
    IsInsertFault standard_limits (bytes ++ rest) f.fault f.at × (f.fault ≡ InputTooLong)
    × IsInserted standard_limits (take f.at (bytes ++ rest)) comment replace text

-- which text is written, by why that ended; if it is complete, no rest is left
abbrev pub inserted_texts : List ℕ → Bool → CopyTexts
inserted_texts comment replace = record {
  whole = λ rest bytes text. (rest ≡ []) × IsInsertedWhole comment replace bytes text;
  refused = IsLongFile comment replace;
  unread = IsInsertedWhole comment replace;
  part = IsFilePart comment replace;
  less = IsFileLess comment replace;
}

abbrev pub EndsInserting : List ℕ → Bool → DeskState → Why → DeskState → Type 0
EndsInserting comment replace old ended new = Copies (inserted_texts comment replace) CopiesText old ended new

-- UP TO THAT MARKER, where nothing is written

-- The file, which has this rest after the bytes, has this fault before its frame header. It is in the bytes, and fewer
-- than 65,536 of them are after it.
abbrev pub IsFaultBefore : FaultAt → List ℕ → List ℕ → Type 0
IsFaultBefore f rest bytes = IsHeadFault standard_limits (bytes ++ rest) f.fault f.at × (f.at ≤ length bytes) × (length bytes < f.at + 65536)

-- a prefix of the bytes ends with the marker, and fewer than 65,536 bytes are after it
abbrev pub IsAtHead : List ℕ → Type 0
IsAtHead bytes = (count : ℕ) × (count ≤ length bytes) × (length bytes < count + 65536) × HoldsHead standard_limits (take count bytes)

-- no fault and no such marker, in fewer bytes than may be taken
abbrev pub IsNoHead : List ℕ → Type 0
IsNoHead bytes = RevealsNothing standard_limits (HoldsHead standard_limits) bytes × (length bytes < standard_limits.input)

-- from these bytes on, why the reading ended
abbrev pub EndsBefore : List ℕ → DeskState → Why → DeskState → Type 0
EndsBefore bytes old (why.Refused f) new =
    (piece : List ℕ) × Consumes old.left new.left piece × (length (bytes ++ piece) ≤ standard_limits.input)
    × IsFaultBefore f (rest_of new.left) (bytes ++ piece)
EndsBefore bytes old (why.ReadFault which.Input) new = (new.left ≡ old.left) × IsNoHead bytes × Rose old.counts.reads new.counts.reads
EndsBefore bytes old why.NoMemory new =
    (piece : List ℕ) × Consumes old.left new.left piece × (length (bytes ++ piece) ≤ standard_limits.input) × IsBeforeHead (bytes ++ piece)
EndsBefore bytes old other new = ⊥
