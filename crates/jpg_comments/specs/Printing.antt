-- The comments of a file, printed in their order (T.81, B.2.4.5, the manual of rdjpgcom in release 6b).
use Rattle.std.specs.Prelude.{◌≡◌, ℕ, ◌<◌, ◌≤◌, Bool, true, false, List, [], ◌∷◌, ◌++◌, length, take, Result, Ok, Err, ◌==◌, if◌then◌else◌}
use Rattle.jpg_spec.specs.Markers.{Segment, kept_rule, has_scan}
use Rattle.jpg_spec_write.specs.CommentText.{printed, comments_text, IsReadWhole, RevealsNothing, SomeSegments}
use Rattle.jpg_spec.specs.declared.fault.Fault.{Fault}
use Rattle.jpg_spec.specs.declared.frame.Limits.{Limits}
use Rattle.jpg_base.specs.declared.stop.Stop.{Stop}
use Rattle.jpg_base.specs.declared.stop.Stop.TheVariants as stop
use Rattle.jpg_markers.specs.Reading.{HasRoom, Reading, reading_of}
use Rattle.jpg_markers.specs.declared.segments.SegmentReader.{SegmentReader}
use Rattle.jpg_base.specs.Intake.{IntakeKind}
use Rattle.jpg_comments.specs.declared.comments.Printing.{Printing}
use Rattle.jpg_comments.specs.SegmentsSoFar.{Appends, IsBegun, AreWholeBefore, HasTaken, ShowsFault}

-- these bytes begin with a complete file, as rdjpgcom reads it
abbrev pub HoldsWhole : Limits → List ℕ → Type 0
HoldsWhole limits bytes = SomeSegments (IsReadWhole limits bytes)

-- The text of the comments among the bytes that were given to a reader.
abbrev pub HasPrinted : Limits → List ℕ → List ℕ → Reading → Type 0
HasPrinted limits bytes text r =
    (before : List Segment) × HasTaken limits (HoldsWhole limits) bytes before r × (has_scan before ≡ false) × (text ≡ comments_text before)

-- WHAT IS APPENDED with further bytes

-- the text of the comments of a complete file
abbrev pub PrintsWhole : Limits → List ℕ → List ℕ → Type 0
PrintsWhole limits bytes text = (before : List Segment) × IsReadWhole limits bytes before × (text ≡ comments_text before) × (length bytes ≤ limits.input)

-- the text of the comments that were complete before a fault
abbrev pub PrintsBefore : Limits → List ℕ → Fault → List ℕ → Type 0
PrintsBefore limits bytes fault text = (before : List Segment) × AreWholeBefore limits bytes fault before × (text ≡ comments_text before)

-- A prefix of the bytes has no fault and no complete file. The text is a first part of that of the comments that are
-- complete in it, and something of that is left.
pub record PrintsPart (limits : Limits) (bytes text : List ℕ) : Type 0 where
  pub count : ℕ
  pub front : ℕ
  pub before : List Segment
  pub within : front ≤ length bytes
  pub nothing : RevealsNothing limits (HoldsWhole limits) (take front bytes)
  pub begun : IsBegun (kept_rule limits) (take front bytes) before
  pub is : text ≡ take count (comments_text before)
  pub less : count < length (comments_text before)

-- why it stops, whatever follows the bytes
abbrev pub StopsPrinting : Limits → List ℕ → List ℕ → Stop → Type 0
StopsPrinting limits bytes text (stop.Fault f) = ShowsFault limits (HoldsWhole limits) bytes f × PrintsBefore limits (take f.at bytes) f.fault text
StopsPrinting limits bytes text stop.NoMemory = PrintsPart limits bytes text

-- by the result of the last byte
abbrev pub AfterPrinted : Limits → List ℕ → List ℕ → Result Bool Stop → Reading → Type 0
AfterPrinted limits bytes text (Ok false) r = HasPrinted limits bytes text r
AfterPrinted limits bytes text (Ok true) r = PrintsWhole limits bytes text
AfterPrinted limits bytes text (Err s) r = StopsPrinting limits bytes text s

-- FOR ALL BYTES that a reader with room for the contents of any segment was given, and the text that was appended for
-- them
abbrev pub PrintsByte : Reading → ℕ → List ℕ → Result Bool Stop → List ℕ → Reading → Type 0
PrintsByte old byte had answer out new =
    (limits : Limits) (bytes text : List ℕ) → HasPrinted limits bytes text old → Appends (λ all. AfterPrinted limits (bytes ++ byte ∷ []) all answer new) text had out

abbrev pub printing : Printing → IntakeKind SegmentReader (List ℕ)
printing p = record {
  after = λ from bytes answer now.
      ((reading_of now.0).limits ≡ (reading_of from.0).limits) × ((reading_of now.0).limits.input ≡ p.most) × HasRoom now.0
      × ((limits : Limits) (before text : List ℕ) → HasPrinted limits before text (reading_of from.0) → Appends (λ all. AfterPrinted limits (before ++ bytes) all answer (reading_of now.0)) text from.1 now.1);
  taken = λ r. (reading_of r).taken;
  most = λ r. p.most;
}

-- A SEGMENT

-- what is printed of a segment
abbrev pub due_text : ℕ → List ℕ → List ℕ
due_text code contents = if code == 0xfe then printed contents else []

-- It is printed, and the result is whether it is the header of a scan; or there is no memory for all that is printed.
abbrev pub PrintsSegment : ℕ → List ℕ → Result Bool Stop → List ℕ → List ℕ → Type 0
PrintsSegment code contents (Ok scan) old new = (scan ≡ (code == 0xda)) × (new ≡ old ++ due_text code contents)
PrintsSegment code contents (Err (stop.Fault f)) old new = ⊥
PrintsSegment code contents (Err stop.NoMemory) old new = (n : ℕ) × (new ≡ old ++ take n (due_text code contents)) × (n < length (due_text code contents))
