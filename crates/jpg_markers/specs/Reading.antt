-- What a reader of segments keeps of the bytes that it was given, and their result.
use Rattle.std.specs.Prelude.{if◌then◌else◌, ◌==◌, ◌≡◌, ◌⊎◌, ℕ, suc, ◌+◌, ◌-◌, ◌<◌, ◌≤◌, true, min, take, List, [], ◌∷◌, ◌++◌, length, replicate, Option, None, Result, Ok, Err, vec_capacity}
use Rattle.jpg_spec.specs.Segments.{two_bytes}
use Rattle.jpg_spec.specs.Markers.{Segment, Rule, SpellsMarker, SpellsSegment, code_fault, code_fault_if, kept_rule, Between, RevealsNoStart, NoMarkerBytes, TailReveals, BeginsSegment, at_soi, at_frame, at_eoi, at_segment, at_fault, at_part, Reaches}
use Rattle.jpg_spec.specs.declared.frame.Limits.{Limits}
use Rattle.jpg_spec.specs.declared.fault.Fault.{Fault}
use Rattle.jpg_spec.specs.declared.fault.Fault.TheVariants.{NotJpeg, NoMarker}
use Rattle.jpg_base.specs.declared.names.NoMemory.{NoMemory}
use Rattle.jpg_base.specs.declared.stop.Stop.{Stop}
use Rattle.jpg_base.specs.declared.stop.Stop.TheVariants as stop
use Rattle.jpg_markers.specs.declared.seen.Seen.{Seen}
use Rattle.jpg_markers.specs.declared.segments.Halt.{Halt}
use Rattle.jpg_markers.specs.declared.segments.Halt.TheVariants as halt
use Rattle.jpg_markers.specs.declared.segments.Phase.{Phase}
use Rattle.jpg_markers.specs.declared.segments.Phase.TheVariants as phase
use Rattle.jpg_markers.specs.declared.segments.SegStep.{SegStep}
use Rattle.jpg_markers.specs.declared.segments.SegStep.TheVariants as step
use Rattle.jpg_markers.specs.declared.segments.SegmentReader.{SegmentReader}
use Rattle.jpg_markers.specs.Seen.{HasSeen, allows}

-- what contracts see of a reader: also the last complete segment's code and contents, and why it stopped, if it did
pub record Reading : Type 0 where
  pub limits : Limits
  pub taken : ℕ
  pub phase : Phase
  pub code : ℕ
  pub high : ℕ
  pub left : ℕ
  pub contents : List ℕ
  pub seen : Seen
  pub stop : Option Stop

abbrev pub reading_of : SegmentReader → Reading
reading_of r = record {
  limits = r.limits;
  taken = r.taken;
  phase = r.phase;
  code = r.code;
  high = r.high;
  left = r.left;
  contents = r.contents.items;
  seen = r.seen;
  stop = r.stop;
}

-- there is room for the contents of any segment
abbrev pub HasRoom : SegmentReader → Type 0
HasRoom r = 65533 ≤ vec_capacity r.contents

-- THE PART of a segment that was read

abbrev pub PartRead : Reading → Phase → List Segment → List ℕ → Type 0
PartRead r phase.Empty before tail = ⊥
PartRead r phase.HalfStart before tail = ⊥
PartRead r phase.Between before tail = tail ≡ []
PartRead r phase.Fill before tail = (fill : ℕ) × (tail ≡ replicate (suc fill) 255)
PartRead r phase.Coded before tail = BeginsSegment before r.code tail
PartRead r phase.HalfLength before tail = (marker : List ℕ) × BeginsSegment before r.code marker × (tail ≡ marker ++ r.high ∷ []) × (r.high < 256)
PartRead r phase.Contents before tail =
    (marker : List ℕ) × (high : ℕ) × (low : ℕ) × BeginsSegment before r.code marker × (tail ≡ marker ++ high ∷ low ∷ r.contents)
    × (high < 256) × (low < 256) × (length r.contents + r.left + 2 ≡ two_bytes high low) × (1 ≤ r.left)
PartRead r phase.Ended before tail = ⊥

-- complete segments that break no rule, what is remembered of them, and a part of one more
abbrev pub IsBetween : Reading → Phase → List ℕ → List Segment → Type 0
IsBetween r p bytes before =
    (tail : List ℕ) × Between (kept_rule r.limits) bytes before tail × HasSeen r.limits r.seen before × PartRead r p before tail

abbrev pub AtPhase : Reading → Phase → List ℕ → List Segment → Type 0
AtPhase r phase.Empty bytes before = (bytes ≡ []) × (before ≡ []) × HasSeen r.limits r.seen []
AtPhase r phase.HalfStart bytes before = (bytes ≡ 255 ∷ []) × (before ≡ []) × HasSeen r.limits r.seen []
AtPhase r phase.Between bytes before = IsBetween r phase.Between bytes before
AtPhase r phase.Fill bytes before = IsBetween r phase.Fill bytes before
AtPhase r phase.Coded bytes before = IsBetween r phase.Coded bytes before
AtPhase r phase.HalfLength bytes before = IsBetween r phase.HalfLength bytes before
AtPhase r phase.Contents bytes before = IsBetween r phase.Contents bytes before
AtPhase r phase.Ended bytes before = ⊥

-- The reader was given these bytes, scan data left out. The complete segments among them are these.
abbrev pub RepresentsSegments : List ℕ → List Segment → Reading → Type 0
RepresentsSegments bytes before r = (r.stop ≡ None) × AtPhase r r.phase bytes before

-- THE RESULT of the bytes, after these complete segments

-- the last segment is complete, and not yet among what is remembered
abbrev pub HasWholeSegment : List ℕ → List Segment → Reading → Type 0
HasWholeSegment bytes before r =
    (tail : List ℕ) × Between (kept_rule r.limits) bytes before tail × HasSeen r.limits r.seen before
    × SpellsSegment r.code r.contents tail × (code_fault before r.code ≡ None) × (r.code ≡ 0xd9 → ⊥)

-- the fault of the bytes
abbrev pub RevealsAfter : Rule → List Segment → Fault → List ℕ → Type 0
RevealsAfter rule before fault bytes =
    ((fault ≡ NotJpeg) × (before ≡ []) × RevealsNoStart bytes)
    ⊎ ((tail : List ℕ) × Between rule bytes before tail × (((fault ≡ NoMarker) × NoMarkerBytes tail) ⊎ TailReveals rule before fault tail))

-- an EOI that may occur there
abbrev pub EndsAtEoi : Rule → List Segment → List ℕ → Type 0
EndsAtEoi rule before bytes = (tail : List ℕ) × Between rule bytes before tail × SpellsMarker 0xd9 tail × (code_fault before 0xd9 ≡ None)

abbrev pub Comes : List ℕ → List Segment → Result SegStep Stop → Reading → Type 0
Comes bytes before (Ok step.More) r = Reaches (kept_rule r.limits) bytes at_part × RepresentsSegments bytes before r
Comes bytes before (Ok step.Start) r = Reaches (kept_rule r.limits) bytes at_soi × RepresentsSegments bytes before r
Comes bytes before (Ok step.Frame) r = Reaches (kept_rule r.limits) bytes at_frame × RepresentsSegments bytes before r
Comes bytes before (Ok step.Eoi) r = Reaches (kept_rule r.limits) bytes at_eoi × EndsAtEoi (kept_rule r.limits) before bytes
Comes bytes before (Ok step.Whole) r = Reaches (kept_rule r.limits) bytes (at_segment (r.code, r.contents)) × RepresentsSegments bytes ((r.code, r.contents) ∷ before) r
Comes bytes before (Err (stop.Fault f)) r =
    Reaches (kept_rule r.limits) bytes (at_fault f.fault) × RevealsAfter (kept_rule r.limits) before f.fault bytes × (f.at ≡ r.taken)
Comes bytes before (Err stop.NoMemory) r = Unit {0}

-- the result of a byte before a halt is kept as a stop, which has the place too
abbrev pub Goes : List ℕ → List Segment → Result SegStep Halt → Reading → Type 0
Goes bytes before (Ok s) r = Comes bytes before (Ok s) r
Goes bytes before (Err (halt.Fault f)) r = Reaches (kept_rule r.limits) bytes (at_fault f) × RevealsAfter (kept_rule r.limits) before f bytes
Goes bytes before (Err halt.NoMemory) r = Unit {0}

-- For all bytes that a reader was given, its result is that of these and further ones.
abbrev pub ComesWith : Reading → List ℕ → Result SegStep Stop → Reading → Type 0
ComesWith old more answer new = (bytes : List ℕ) (before : List Segment) → RepresentsSegments bytes before old → Comes (bytes ++ more) before answer new

abbrev pub GoesWith : Reading → List ℕ → Result SegStep Halt → Reading → Type 0
GoesWith old more answer new = (bytes : List ℕ) (before : List Segment) → RepresentsSegments bytes before old → Goes (bytes ++ more) before answer new

-- Where a segment is complete, the result is that of the bytes.
abbrev pub GoesWhole : Reading → Result SegStep Halt → Reading → Type 0
GoesWhole old answer new = (bytes : List ℕ) (before : List Segment) → old.stop ≡ None → HasWholeSegment bytes before old → Goes bytes before answer new

-- the last result was Whole for an SOS segment
abbrev pub IsAfterScan : Reading → Type 0
IsAfterScan r = (r.stop ≡ None) × (r.phase ≡ phase.Between) × (r.code ≡ 0xda)

-- after a complete segment the next byte is between two
abbrev pub AfterWhole : {X : Type 0} → Result SegStep X → Reading → Type 0
AfterWhole (Ok step.More) r = Unit {0}
AfterWhole (Ok step.Start) r = Unit {0}
AfterWhole (Ok step.Frame) r = Unit {0}
AfterWhole (Ok step.Eoi) r = Unit {0}
AfterWhole (Ok step.Whole) r = r.phase ≡ phase.Between
AfterWhole (Err e) r = Unit {0}

-- a result other than NoMemory
abbrev pub HasMemory : Result SegStep Stop → Type 0
HasMemory (Ok s) = Unit {0}
HasMemory (Err (stop.Fault f)) = Unit {0}
HasMemory (Err stop.NoMemory) = ⊥

abbrev pub HaltsNot : Result SegStep Halt → Type 0
HaltsNot (Ok s) = Unit {0}
HaltsNot (Err (halt.Fault f)) = Unit {0}
HaltsNot (Err halt.NoMemory) = ⊥

-- what a step doesn't change
pub record Stays (old new : SegmentReader) : Type 0 where
  pub limits : new.limits ≡ old.limits
  pub taken : new.taken ≡ old.taken
  pub stop : new.stop ≡ old.stop
  pub room : HasRoom old → HasRoom new

-- SOME BYTES at once that only continue what is there: how many of these bytes, from the first on, are fill bytes
unfoldable pub filled : List ℕ → ℕ
filled [] = 0
filled (b ∷ bytes) = if b == 255 then suc (filled bytes) else 0

-- fill bytes after FF, or contents before a segment's last one
abbrev pub due_of : Phase → ℕ → List ℕ → ℕ
due_of phase.Empty left bytes = 0
due_of phase.HalfStart left bytes = 0
due_of phase.Between left bytes = 0
due_of phase.Fill left bytes = filled bytes
due_of phase.Coded left bytes = 0
due_of phase.HalfLength left bytes = 0
due_of phase.Contents left bytes = min (left - 1) (length bytes)
due_of phase.Ended left bytes = 0

-- the reader with so many more bytes taken
abbrev pub with_taken : Reading → ℕ → Reading
with_taken r n = record r { taken = r.taken + n }

-- the reader with further bytes of contents
abbrev pub with_contents : Reading → List ℕ → Reading
with_contents r more = record r { taken = r.taken + length more; left = r.left - length more; contents = r.contents ++ more }

abbrev pub continued : Phase → Reading → List ℕ → Reading
continued phase.Empty r more = with_taken r (length more)
continued phase.HalfStart r more = with_taken r (length more)
continued phase.Between r more = with_taken r (length more)
continued phase.Fill r more = with_taken r (length more)
continued phase.Coded r more = with_taken r (length more)
continued phase.HalfLength r more = with_taken r (length more)
continued phase.Contents r more = with_contents r more
continued phase.Ended r more = with_taken r (length more)

-- all of them that are given, or none if there is no memory for them
abbrev pub Continues : Reading → List ℕ → Result ℕ NoMemory → Reading → Type 0
Continues old bytes (Ok n) new = (n ≡ due_of old.phase old.left bytes) × (new ≡ continued old.phase old (take n bytes))
Continues old bytes (Err e) new = new ≡ old

-- The contents that are due among these bytes need more memory than the reader has.
abbrev pub NeedsMemory : SegmentReader → List ℕ → Type 0
NeedsMemory r bytes = ((reading_of r).phase ≡ phase.Contents) × (vec_capacity r.contents < length (reading_of r).contents + due_of phase.Contents (reading_of r).left bytes)

-- n are all bytes that are due among these; or none, if they need more memory.
abbrev pub PassesDue : SegmentReader → List ℕ → ℕ → Type 0
PassesDue r bytes n = (n ≡ due_of (reading_of r).phase (reading_of r).left bytes) ⊎ ((n ≡ 0) × NeedsMemory r bytes)

-- For all bytes that it was given before, it was given these and those that were taken, as if `byte` had returned More
-- to each.
abbrev pub PassesBytes : Reading → List ℕ → Reading → Type 0
PassesBytes old more new = (bytes : List ℕ) (before : List Segment) → RepresentsSegments bytes before old → RepresentsSegments (bytes ++ more) before new

-- and none of them completed anything
abbrev pub PassesParts : Reading → List ℕ → ℕ → Type 0
PassesParts old bytes n =
    (front : List ℕ) (before : List Segment) (m : ℕ) → RepresentsSegments front before old → 1 ≤ m → m ≤ n → Reaches (kept_rule old.limits) (front ++ take m bytes) at_part

abbrev pub PassesSome : Reading → List ℕ → Result ℕ NoMemory → Reading → Type 0
PassesSome old bytes (Ok n) new = (n ≤ length bytes) × PassesBytes old (take n bytes) new × PassesParts old bytes n
PassesSome old bytes (Err e) new = Unit {0}

-- a code, a length and contents, and perhaps further bytes
abbrev pub IsSized : ℕ → List ℕ → List ℕ → Type 0
IsSized code contents bytes =
    (high : ℕ) × (low : ℕ) × (rest : List ℕ) × (bytes ≡ code ∷ high ∷ low ∷ (contents ++ rest)) × (high < 256) × (low < 256)
    × (length contents + 2 ≡ two_bytes high low)

-- no segment is complete in the bytes from the first on
abbrev pub HasNoSegment : List ℕ → Type 0
HasNoSegment bytes = (code : ℕ) (contents : List ℕ) (n : ℕ) → SpellsSegment code contents (take n bytes) → ⊥

-- A COMPLETE SEGMENT at once: it may follow what the reader was given, which is between segments
pub record MayFollow (r : Reading) (code : ℕ) (contents : List ℕ) : Type 0 where
  pub between : r.phase ≡ phase.Between
  pub no_end : code ≡ 0xd9 → ⊥
  pub allowed : code_fault_if r.seen.framed code ≡ None
  pub within : allows r.seen code contents ≡ true

-- and is taken, in so many bytes
pub record PassesSegment (old : Reading) (code : ℕ) (contents : List ℕ) (n : ℕ) (new : Reading) : Type 0 where
  pub was : old.phase ≡ phase.Between
  pub between : new.phase ≡ phase.Between
  pub limits : new.limits ≡ old.limits
  pub taken : new.taken ≡ old.taken + n
  pub kept : (bytes : List ℕ) (before : List Segment) → RepresentsSegments bytes before old → kept_rule old.limits before code contents ≡ None
  pub stands : (bytes tail : List ℕ) (before : List Segment) → RepresentsSegments bytes before old → SpellsSegment code contents tail → RepresentsSegments (bytes ++ tail) ((code, contents) ∷ before) new
