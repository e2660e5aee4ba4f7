-- WHAT PRINTING THE COMMENTS of a file does to a desk (T.81, B.2.4.5, the manual of rdjpgcom in release 6b), by why it
-- ended.
use Rattle.std.specs.Prelude.{◌≡◌, ◌⊎◌, ℕ, ◌+◌, ◌<◌, ◌≤◌, List, [], ◌∷◌, ◌++◌, length, take, Bool, true, false, Option, Result, Ok, Err}
use Rattle.jpg_base.specs.declared.names.Name.{Name}
use Rattle.jpg_base.specs.Desk.{DeskState}
use Rattle.jpg_spec.specs.Segments.{standard_limits}
use Rattle.jpg_spec.specs.Markers.{Segment, kept_rule}
use Rattle.jpg_spec_write.specs.CommentText.{comments_text, IsReadWhole, IsReadFault, RevealsNothing}
use Rattle.jpg_spec.specs.declared.fault.Fault.{Fault}
use Rattle.jpg_spec.specs.declared.fault.FaultAt.{FaultAt}
use Rattle.jpg_spec_words.specs.declared.answers.Why.{Why}
use Rattle.jpg_spec_words.specs.declared.answers.Why.TheVariants as why
use Rattle.jpg_spec_words.specs.declared.answers.Which.TheVariants as which
use Rattle.jpg_comments.specs.SegmentsSoFar.{Appends, IsBegun, AreWholeBefore}
use Rattle.jpg_comments.specs.Printing.{HoldsWhole}
use Rattle.jpg_comments.specs.ReadComments.{HasRead, comments_limits, is_ready}
use Rattle.jpg_comments.specs.declared.comments.Comments.{Comments}
use Rattle.jpg_cli.specs.Copies.{Copies, CopiesText, CopyTexts, HasCopied}
use Rattle.jpg_desk.specs.Endings.{Copied, Unopened}
use Rattle.jpg_desk.specs.Pump.{FedKind, ended_as}
use Rattle.jpg_desk.specs.Reading.{IsFile}
use Rattle.jpg_desk.specs.Stays.{OnlyCopies, Untouched}
use Rattle.jpg_cli.specs.declared.tools.rdjpgcom.PrintSink.{PrintSink}

-- THE TEXT that was printed, by the bytes that were read

-- the complete segments of bytes: of those of a complete file, of those whose last one reveals a fault, or of others
abbrev pub AreCompleteSegments : List ℕ → List Segment → Type 0
AreCompleteSegments bytes before = IsReadWhole standard_limits bytes before ⊎ ((fault : Fault) × AreWholeBefore standard_limits bytes fault before)

-- A prefix of the bytes is a complete file, and fewer than 65,536 bytes were read after it. The text is that of its
-- comments.
pub record IsWholeText (bytes text : List ℕ) : Type 0 where
  pub count : ℕ
  pub before : List Segment
  pub within : count ≤ length bytes
  pub last : length bytes < count + 65536
  pub whole : IsReadWhole standard_limits (take count bytes) before
  pub is : text ≡ comments_text before

-- The file, which has this rest after the bytes, has this fault. It is in the bytes, and fewer than 65,536 of them are
-- after it. The text is that of the comments that are complete before it.
pub record IsFaultText (f : FaultAt) (rest bytes text : List ℕ) : Type 0 where
  pub before : List Segment
  pub fault : IsReadFault standard_limits (bytes ++ rest) f.fault f.at
  pub within : f.at ≤ length bytes
  pub last : length bytes < f.at + 65536
  pub whole : AreWholeBefore standard_limits (take f.at bytes) f.fault before
  pub is : text ≡ comments_text before

-- The bytes are fewer than may be taken, have no fault and no complete file. The text is that of the comments that are
-- complete in them.
pub record IsTextSoFar (bytes text : List ℕ) : Type 0 where
  pub before : List Segment
  pub short : length bytes < standard_limits.input
  pub nothing : RevealsNothing standard_limits (HoldsWhole standard_limits) bytes
  pub begun : IsBegun (kept_rule standard_limits) bytes before
  pub is : text ≡ comments_text before

-- The text is a first part of that of the comments that are complete in a prefix of the bytes.
pub record IsTextPart (bytes text : List ℕ) : Type 0 where
  pub front : ℕ
  pub count : ℕ
  pub before : List Segment
  pub whole : AreCompleteSegments (take front bytes) before
  pub is : text ≡ take count (comments_text before)

-- A prefix of the bytes has no fault and no complete file. The text is a first part of that of the comments that are
-- complete in it, and something of that is left.
pub record IsTextLess (bytes text : List ℕ) : Type 0 where
  pub front : ℕ
  pub count : ℕ
  pub before : List Segment
  pub within : front ≤ length bytes
  pub nothing : RevealsNothing standard_limits (HoldsWhole standard_limits) (take front bytes)
  pub begun : IsBegun (kept_rule standard_limits) (take front bytes) before
  pub is : text ≡ take count (comments_text before)
  pub less : count < length (comments_text before)

-- which text is printed, by why it ended
abbrev pub printed_texts : CopyTexts
printed_texts = record { whole = λ rest. IsWholeText; refused = IsFaultText; unread = IsTextSoFar; part = IsTextPart; less = IsTextLess }

-- THE RESULTS: the comments of the input were printed to the output, or some of them, by the result; or the input
-- wasn't opened, or the output wasn't created
abbrev pub Printed : Name → Name → DeskState → Why → DeskState → Type 0
Printed input output old (why.OpenFault which.Input) new = Unopened (input ∷ []) old new
Printed input output old (why.OpenFault which.Output) new = Unopened (input ∷ output ∷ []) old new
Printed input output old ended new = Copies printed_texts (Copied [] input output) old ended new

-- or there was no memory to begin with
abbrev pub PrintedOrNot : Name → Name → DeskState → Why → DeskState → Type 0
PrintedOrNot input output old ended new = Printed input output old ended new ⊎ ((ended ≡ why.NoMemory) × Untouched old new)

-- If no count of open, read or write rose, the result is that of the input, or NoMemory.
abbrev pub IsPrintDue : Name → DeskState → Why → Type 0
IsPrintDue input old why.Done =
    (bytes : List ℕ) × (n : ℕ) × (before : List Segment) × IsFile old.files input bytes × (n ≤ length bytes) × (n ≤ standard_limits.input)
    × IsReadWhole standard_limits (take n bytes) before
IsPrintDue input old (why.Refused f) = (bytes : List ℕ) × IsFile old.files input bytes × IsReadFault standard_limits bytes f.fault f.at
IsPrintDue input old why.NoMemory = Unit {0}
IsPrintDue input old other = ⊥

-- STEP BY STEP, from a desk whose input is open and whose output is created

abbrev pub EndsCopying : DeskState → Why → DeskState → Type 0
EndsCopying old ended new = Copies printed_texts CopiesText old ended new

-- The result of a piece: the text for all the bytes so far, or why the reading ends.
abbrev pub AfterTaking : List ℕ → List ℕ → Result Bool Why → Comments → Type 0
AfterTaking bytes text (Ok false) c = HasRead bytes text c
AfterTaking bytes text (Ok true) c = IsWholeText bytes text
AfterTaking bytes text (Err (why.Refused f)) c = (rest : List ℕ) → IsFaultText f rest bytes text
AfterTaking bytes text (Err why.NoMemory) c = IsTextLess bytes text
AfterTaking bytes text (Err other) c = ⊥

-- for all bytes that were read before, and the text that was appended for them
abbrev pub TakesPiece : Comments → List ℕ → List ℕ → Result Bool Why → List ℕ → Comments → Type 0
TakesPiece had piece old due out c = (bytes text : List ℕ) → HasRead bytes text had → Appends (λ all. AfterTaking (bytes ++ piece) all due c) text old out

-- the result of bytes where the input ends
abbrev pub AfterEnd : List ℕ → List ℕ → Why → Type 0
AfterEnd bytes text (why.Refused f) = IsFaultText f [] bytes text
AfterEnd bytes text other = ⊥

-- ALL PIECES: what was read was printed
pub record IsPrinting (from : PrintSink × DeskState) (bytes : List ℕ) (now : PrintSink × DeskState) : Type 0 where
  pub text : List ℕ
  pub read : HasRead bytes text now.0.comments
  pub limits : comments_limits now.0.comments ≡ standard_limits
  pub ready : is_ready now.0.comments ≡ true
  pub empty : now.0.out ≡ []
  pub kept : OnlyCopies from.1 now.1
  pub copied : HasCopied from.1 bytes text now.1
  pub created : now.1.output_created ≡ true

abbrev pub EndsPrinting : PrintSink × DeskState → Result (Option ℕ) Why → PrintSink × DeskState → Type 0
EndsPrinting from answer now = OnlyCopies from.1 now.1 × EndsCopying from.1 (ended_as answer) now.1

abbrev pub print_kind : FedKind PrintSink
print_kind = record { most = λ s. standard_limits.input; fed = IsPrinting; ended = EndsPrinting }
