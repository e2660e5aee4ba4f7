-- A file with one more comment, written as it is read (T.81, B.2.4.5, the manual of wrjpgcom in release 6b).
use Rattle.std.specs.Prelude.{◌≡◌, ◌⊎◌, ℕ, ◌+◌, ◌-◌, ◌<◌, ◌≤◌, Bool, true, false, ◌&&◌, ◌==◌, if◌then◌else◌, List, [], ◌∷◌, ◌++◌, length, take, flat_map, Option, Some, None, Result, Ok, Err}
use Rattle.jpg_spec_write.specs.FileText.{segment_text}
use Rattle.jpg_spec.specs.Markers.{Segment, soi, has_frame}
use Rattle.jpg_spec_write.specs.CommentText.{SomeSegments, IsHeadFault, IsInsertFault, IsInserted, RevealsNothing, head_segments, IsFileFront}
use Rattle.jpg_spec.specs.declared.fault.Fault.TheVariants.{InputTooLong}
use Rattle.jpg_spec.specs.declared.fault.FaultAt.{FaultAt}
use Rattle.jpg_spec.specs.declared.frame.Limits.{Limits}
use Rattle.jpg_base.specs.declared.stop.Stop.{Stop}
use Rattle.jpg_base.specs.declared.stop.Stop.TheVariants as stop
use Rattle.jpg_markers.specs.Reading.{HasRoom, PassesSegment, Reading, reading_of}
use Rattle.jpg_markers.specs.declared.whole.WholeSegment.{WholeSegment}
use Rattle.jpg_markers.specs.declared.segments.SegmentReader.{SegmentReader}
use Rattle.jpg_base.specs.Intake.{IntakeKind}
use Rattle.jpg_comments.specs.declared.insert.Keeping.{Keeping}
use Rattle.jpg_base.specs.declared.names.NoMemory.{NoMemory}
use Rattle.jpg_comments.specs.Appending.{AppendsText}
use Rattle.jpg_comments.specs.SegmentsSoFar.{HasTaken, ShowsFault}

-- THE HEAD

-- these bytes end with the marker of the frame header
abbrev pub HoldsHead : Limits → List ℕ → Type 0
HoldsHead limits bytes = (code : ℕ) × SomeSegments (λ before. IsFileFront limits bytes before code)

-- SOI and the segments, as they are written
abbrev pub copied_head : Bool → List Segment → List ℕ
copied_head replace before = soi ++ flat_map (λ s. segment_text s.0 s.1) (head_segments replace before)

-- what is written of a segment
abbrev pub copied_segment : Bool → ℕ → List ℕ → List ℕ
copied_segment replace code contents = if replace && code == 0xfe then [] else segment_text code contents

-- The head is kept of bytes that were given to a reader, among which the frame header's marker isn't complete yet.
abbrev pub HasKept : Limits → Bool → List ℕ → List ℕ → Reading → Type 0
HasKept limits replace bytes head r =
    (before : List Segment) × HasTaken limits (HoldsHead limits) bytes before r × (has_frame before ≡ false) × (head ≡ copied_head replace before)

-- the frame header's marker is complete
abbrev pub IsAtFrame : Limits → Bool → List ℕ → List ℕ → Reading → Type 0
IsAtFrame limits replace bytes head r =
    (before : List Segment) × IsFileFront limits bytes before r.code × (head ≡ copied_head replace before) × (r.taken ≡ length bytes) × (length bytes ≤ limits.input)

-- why it stops: a fault, whatever follows the bytes; or NoMemory, and they have no fault and no such marker
abbrev pub StopsHead : Limits → List ℕ → Stop → Type 0
StopsHead limits bytes (stop.Fault f) = ShowsFault limits (HoldsHead limits) bytes f
StopsHead limits bytes stop.NoMemory = RevealsNothing limits (HoldsHead limits) bytes

-- by the result of the last byte: whether the marker is there
abbrev pub AfterHead : Limits → Bool → List ℕ → Result Bool Stop → List ℕ → Reading → Type 0
AfterHead limits replace bytes (Ok false) head r = HasKept limits replace bytes head r
AfterHead limits replace bytes (Ok true) head r = IsAtFrame limits replace bytes head r
AfterHead limits replace bytes (Err s) head r = StopsHead limits bytes s

-- With some first bytes of a piece, at least one, they have no fault and no such marker.
abbrev pub GoesOnIn : Limits → List ℕ → List ℕ → Type 0
GoesOnIn limits bytes piece =
    (n : ℕ) × (1 ≤ n) × (n ≤ length piece) × RevealsNothing limits (HoldsHead limits) (bytes ++ take n piece)

-- why it stops in a piece: a fault, whatever follows; or NoMemory with one of its bytes
abbrev pub StopsHeadIn : Limits → List ℕ → List ℕ → Stop → Type 0
StopsHeadIn limits bytes piece (stop.Fault f) = ShowsFault limits (HoldsHead limits) (bytes ++ piece) f
StopsHeadIn limits bytes piece stop.NoMemory = GoesOnIn limits bytes piece

-- with one more piece, of which this many bytes are used if the marker is there
abbrev pub AfterHeadPiece : Limits → Bool → List ℕ → List ℕ → Result (Option ℕ) Stop → List ℕ → Reading → Type 0
AfterHeadPiece limits replace bytes piece (Ok None) head r = HasKept limits replace (bytes ++ piece) head r × (length (bytes ++ piece) < limits.input)
AfterHeadPiece limits replace bytes piece (Ok (Some used)) head r = IsAtFrame limits replace (bytes ++ take used piece) head r
AfterHeadPiece limits replace bytes piece (Err s) head r = StopsHeadIn limits bytes piece s

-- FOR ALL BYTES that a reader was given, of which this head was kept
abbrev pub KeepsByte : Bool → Reading → ℕ → List ℕ → Result Bool Stop → List ℕ → Reading → Type 0
KeepsByte replace old byte had answer head new =
    (limits : Limits) (bytes : List ℕ) → HasKept limits replace bytes had old → AfterHead limits replace (bytes ++ byte ∷ []) answer head new

abbrev pub KeepsPiece : Bool → Reading → List ℕ → List ℕ → Result (Option ℕ) Stop → List ℕ → Reading → Type 0
KeepsPiece replace old piece had answer head new =
    (limits : Limits) (bytes : List ℕ) → HasKept limits replace bytes had old → AfterHeadPiece limits replace bytes piece answer head new

-- It stops with one of these bytes.
abbrev pub HasStopped : Result Bool Stop → List ℕ → Type 0
HasStopped (Ok whole) bytes = Unit {0}
HasStopped (Err s) bytes = 1 ≤ length bytes

abbrev pub keeping : Keeping → IntakeKind SegmentReader (List ℕ)
keeping k = record {
  after = λ from bytes answer now.
      ((reading_of now.0).limits ≡ (reading_of from.0).limits) × ((reading_of now.0).limits.input ≡ k.most) × HasRoom now.0 × HasStopped answer bytes
      × ((limits : Limits) (before : List ℕ) → HasKept limits k.replace before from.1 (reading_of from.0) → AfterHead limits k.replace (before ++ bytes) answer now.1 (reading_of now.0));
  taken = λ r. (reading_of r).taken;
  most = λ r. k.most;
}

-- the last segment, whose contents a segment can have
abbrev pub KeepsSegment : Bool → Reading → List ℕ → Result (Unit {0}) NoMemory → List ℕ → Type 0
KeepsSegment replace r had answer head = length r.contents ≤ 65533 → AppendsText (copied_segment replace r.code r.contents) answer had head

-- a segment that is taken whole, and kept, if there is memory
abbrev pub KeepsWhole : Bool → Reading → WholeSegment → List ℕ → Result Bool Stop → List ℕ → Reading → Type 0
KeepsWhole replace old s had (Ok whole) head new =
    (whole ≡ false) × PassesSegment old s.code s.contents.now s.length new × (head ≡ had ++ copied_segment replace s.code s.contents.now)
KeepsWhole replace old s had (Err e) head new = (e ≡ stop.NoMemory) × PassesSegment old s.code s.contents.now s.length new

-- THE REST

-- All of it is copied, and the result is how many bytes were taken; or as many as may be taken; or nothing, where there
-- are bytes to copy.
abbrev pub CopiesRest : ℕ → ℕ → List ℕ → Result ℕ Stop → List ℕ → List ℕ → Type 0
CopiesRest taken most rest (Ok n) old new = (n ≡ taken + length rest) × (n < most) × (new ≡ old ++ rest)
CopiesRest taken most rest (Err (stop.Fault f)) old new =
    (f.fault ≡ InputTooLong) × (f.at ≡ most) × (most ≤ taken + length rest) × (new ≡ old ++ take (most - taken) rest)
CopiesRest taken most rest (Err stop.NoMemory) old new = (new ≡ old) × (0 < length rest)

-- THE RESULTS

-- a first part of the text of a prefix with the frame header's marker, and something of that text is left
abbrev pub InsertsLess : Limits → List ℕ → Bool → List ℕ → List ℕ → Type 0
InsertsLess limits comment replace bytes text =
    (n : ℕ) × (front : ℕ) × (whole : List ℕ) × IsInserted limits (take front bytes) comment replace whole × (text ≡ take n whole) × (n < length whole)

-- A fault before the frame header's marker, where nothing was written, or too many bytes, of which those within the
-- limit are written. It remains whatever follows.
abbrev pub InsertsToFault : Limits → List ℕ → Bool → List ℕ → List ℕ → FaultAt → Type 0
InsertsToFault limits comment replace bytes text f =
    ((rest : List ℕ) → IsInsertFault limits (bytes ++ rest) f.fault f.at)
    × (((text ≡ []) × ((rest : List ℕ) → IsHeadFault limits (bytes ++ rest) f.fault f.at))
    ⊎ ((f.fault ≡ InputTooLong) × IsInserted limits (take f.at bytes) comment replace text))

-- With one more piece: such a fault; or NoMemory, and nothing was written before the marker, or not all that is pending.
abbrev pub InsertsUpTo : Limits → List ℕ → Bool → List ℕ → List ℕ → List ℕ → Stop → Type 0
InsertsUpTo limits comment replace bytes piece text (stop.Fault f) = InsertsToFault limits comment replace (bytes ++ piece) text f
InsertsUpTo limits comment replace bytes piece text stop.NoMemory =
    ((text ≡ []) × GoesOnIn limits bytes piece) ⊎ InsertsLess limits comment replace (bytes ++ piece) text
