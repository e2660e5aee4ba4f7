-- MARKERS AND SEGMENTS in a file (T.81, B.1.1.2 to B.1.1.4, Table B.1), and where each is allowed. Lists of segments
-- have the newest first.
use Rattle.std.specs.Prelude.{◌≡◌, ◌⊎◌, ℕ, suc, ◌+◌, ◌<◌, ◌≤◌, Bool, true, false, nat_lt, nat_le, not, ◌&&◌, ◌||◌, ◌==◌, if◌then◌else◌, List, [], ◌∷◌, ◌++◌, length, take, replicate, Option, Some, None}
use Rattle.std.specs.Int.{to_be_bytes, w16}
use Rattle.jpg_spec.specs.Bits.{IsMarkerCode}
use Rattle.jpg_spec.specs.Lists.{any_of}
use Rattle.jpg_spec.specs.Faults.{number_of}
use Rattle.jpg_spec.specs.Segments.{two_bytes}
use Rattle.jpg_spec.specs.Jfif.{begins_jfif, begins_adobe, is_jfif, is_adobe}
use Rattle.jpg_spec.specs.declared.fault.Fault.{Fault}
use Rattle.jpg_spec.specs.declared.fault.Fault.TheVariants.{NotJpeg, NoMarker, UnexpectedMarker, UnsupportedProcess, SecondFrame, SosBeforeSof, BadLength, MarkersTooLarge}
use Rattle.jpg_spec.specs.declared.frame.Process.{Process}
use Rattle.jpg_spec.specs.declared.frame.Process.TheVariants.{Baseline, Extended, Progressive}
use Rattle.jpg_spec.specs.declared.frame.Limits.{Limits}

-- THEIR BYTES

-- a code and contents
abbrev pub Segment : Type 0
Segment = ℕ × List ℕ

abbrev pub soi : List ℕ
soi = 255 ∷ 0xd8 ∷ []

abbrev pub eoi : List ℕ
eoi = 255 ∷ 0xd9 ∷ []

-- any number of fill bytes FF, then FF and a code (B.1.1.2)
abbrev pub SpellsMarker : ℕ → List ℕ → Type 0
SpellsMarker code bytes = (fill : ℕ) × (bytes ≡ replicate (suc fill) 255 ++ code ∷ []) × IsMarkerCode code

-- a marker, and a length that counts itself and the contents (B.1.1.4)
abbrev pub SpellsSegment : ℕ → List ℕ → List ℕ → Type 0
SpellsSegment code contents bytes =
    (marker : List ℕ) × SpellsMarker code marker × (length contents + 2 < 65536) × (bytes ≡ marker ++ to_be_bytes w16 (length contents + 2) ++ contents)

-- SOI, and then segments, none of which is an EOI. The data of a scan after an SOS segment are left out.
abbrev pub SpellsSegments : List Segment → List ℕ → Type 0
SpellsSegments [] bytes = bytes ≡ soi
SpellsSegments (s ∷ before) bytes =
    (front : List ℕ) × (rest : List ℕ) × (bytes ≡ front ++ rest) × SpellsSegments before front × SpellsSegment s.0 s.1 rest × (s.0 ≡ 0xd9 → ⊥)

-- WHICH CODES ARE ALLOWED WHERE (Table B.1)

-- the process of a frame's code (B.1.1.3, Table B.1; B.2.2)
abbrev pub process_of_code : ℕ → Option Process
process_of_code code = if code == 0xc0 then Some Baseline else if code == 0xc1 then Some Extended else if code == 0xc2 then Some Progressive else None

abbrev pub is_frame_code : ℕ → Bool
is_frame_code code = nat_le 0xc0 code && nat_le code 0xc2

abbrev pub has_frame : List Segment → Bool
has_frame segments = any_of (λ s. is_frame_code s.0) segments

abbrev pub has_scan : List Segment → Bool
has_scan segments = any_of (λ s. s.0 == 0xda) segments

abbrev pub is_within : ℕ → ℕ → ℕ → Bool
is_within low high code = nat_le low code && nat_le code high

-- reserved codes, TEM, RST, SOI and JPGn, which have no segment or no meaning
abbrev pub is_unexpected : ℕ → Bool
is_unexpected code = is_within 0x01 0xbf code || (is_within 0xd0 0xd8 code || is_within 0xf0 0xfd code)

-- lossless, hierarchical and arithmetic processes (DAC of B.2.4.3 too), and DNL (B.2.5), DHP and EXP
abbrev pub is_unsupported : ℕ → Bool
is_unsupported code = code == 0xc3 || (is_within 0xc5 0xcf code || (code == 0xdc || (code == 0xde || code == 0xdf)))

-- the fault of a marker's code after these segments, by whether a frame header was seen
abbrev pub code_fault_if : Bool → ℕ → Option Fault
code_fault_if framed code =
    if is_unexpected code || code == 0xd9 && not framed then Some UnexpectedMarker
    else if is_unsupported code then Some UnsupportedProcess
    else if is_frame_code code && framed then Some SecondFrame
    else if code == 0xda && not framed then Some SosBeforeSof
    else None

abbrev pub code_fault : List Segment → ℕ → Option Fault
code_fault before code = code_fault_if (has_frame before) code

-- KEPT MARKERS

-- APPn or COM (B.2.4.5, B.2.4.6), but after the first scan no JFIF and Adobe segments
abbrev pub is_kept_if : Bool → ℕ → List ℕ → Bool
is_kept_if scanned code contents = (code == 0xfe || is_within 0xe0 0xef code) && not (scanned && (begins_jfif code contents || begins_adobe code contents))

abbrev pub is_kept : List Segment → ℕ → List ℕ → Bool
is_kept before code contents = is_kept_if (has_scan before) code contents

-- the kept markers, the newest first
abbrev pub kept_after : List Segment → List Segment
kept_after [] = []
kept_after (s ∷ before) = if is_kept before s.0 s.1 then s ∷ kept_after before else kept_after before

-- Each counts as its contents and 4 more, but the first JFIF segment of exactly 14 bytes and the first Adobe segment of
-- exactly 12 count as nothing.
abbrev pub is_plain_jfif : Segment → Bool
is_plain_jfif s = is_jfif s && length s.1 == 14

abbrev pub is_plain_adobe : Segment → Bool
is_plain_adobe s = is_adobe s && length s.1 == 12

abbrev pub counts_nothing : Bool → Bool → Segment → Bool
counts_nothing jfif_before adobe_before s = is_plain_jfif s && not jfif_before || is_plain_adobe s && not adobe_before

abbrev pub counted_size : Bool → Bool → Segment → ℕ
counted_size jfif_before adobe_before s = if counts_nothing jfif_before adobe_before s then 0 else length s.1 + 4

abbrev pub kept_count : List Segment → ℕ
kept_count [] = 0
kept_count (s ∷ before) = counted_size (any_of is_plain_jfif before) (any_of is_plain_adobe before) s + kept_count before

-- RULES

-- a rule: the fault, if any, of a segment after those before it
abbrev pub Rule : Type 0
Rule = List Segment → ℕ → List ℕ → Option Fault

-- the kept markers within their limit
abbrev pub kept_rule : Limits → Rule
kept_rule limits before code contents =
    if is_kept before code contents && nat_lt limits.kept (kept_count ((code, contents) ∷ kept_after before)) then Some MarkersTooLarge else None

-- the segments break no rule
abbrev pub Pass : Rule → List Segment → Type 0
Pass rule [] = Unit {0}
Pass rule (s ∷ before) = (code_fault before s.0 ≡ None) × (rule before s.0 s.1 ≡ None) × Pass rule before

-- WHICH BYTES HAVE A FAULT: what some first bytes are, up to and with the one that reveals it

-- byte 1 isn't FF, or byte 2 isn't D8
abbrev pub RevealsNoStart : List ℕ → Type 0
RevealsNoStart bytes = ((b : ℕ) × (bytes ≡ b ∷ []) × (b ≡ 255 → ⊥)) ⊎ ((b : ℕ) × (bytes ≡ 255 ∷ b ∷ []) × (b ≡ 0xd8 → ⊥))

-- complete segments that break no rule, and then bytes of something more
pub record Between (rule : Rule) (bytes : List ℕ) (before : List Segment) (tail : List ℕ) : Type 0 where
  pub front : List ℕ
  pub cut : bytes ≡ front ++ tail
  pub spelled : SpellsSegments before front
  pub passed : Pass rule before

-- a byte other than FF, or 00 after FF bytes
abbrev pub NoMarkerBytes : List ℕ → Type 0
NoMarkerBytes tail = ((b : ℕ) × (tail ≡ b ∷ []) × (b ≡ 255 → ⊥)) ⊎ ((fill : ℕ) × (tail ≡ replicate (suc fill) 255 ++ 0 ∷ []))

-- a marker that begins a segment and is allowed here
abbrev pub BeginsSegment : List Segment → ℕ → List ℕ → Type 0
BeginsSegment before code marker = SpellsMarker code marker × (code_fault before code ≡ None) × (code ≡ 0xd9 → ⊥)

-- a marker that isn't allowed here
abbrev pub RevealsCode : List Segment → Fault → List ℕ → Type 0
RevealsCode before fault tail = (code : ℕ) × SpellsMarker code tail × (code_fault before code ≡ Some fault)

-- a length that doesn't count itself
abbrev pub RevealsLength : List Segment → List ℕ → Type 0
RevealsLength before tail =
    (code : ℕ) × (marker : List ℕ) × (high : ℕ) × (low : ℕ) × BeginsSegment before code marker × (tail ≡ marker ++ high ∷ low ∷ []) × (two_bytes high low < 2)

-- a complete segment that breaks the rule
abbrev pub RevealsSegment : Rule → List Segment → Fault → List ℕ → Type 0
RevealsSegment rule before fault tail =
    (code : ℕ) × (contents : List ℕ) × SpellsSegment code contents tail × (code_fault before code ≡ None) × (code ≡ 0xd9 → ⊥) × (rule before code contents ≡ Some fault)

-- the fault of the bytes after complete segments
abbrev pub TailReveals : Rule → List Segment → Fault → List ℕ → Type 0
TailReveals rule before fault tail = RevealsCode before fault tail ⊎ (((fault ≡ BadLength) × RevealsLength before tail) ⊎ RevealsSegment rule before fault tail)

-- the fault of segments, by a rule
abbrev pub SegmentsReveal : Rule → Fault → List ℕ → Type 0
SegmentsReveal rule fault bytes =
    ((fault ≡ NotJpeg) × RevealsNoStart bytes)
    ⊎ ((before : List Segment) × (tail : List ℕ) × Between rule bytes before tail × (((fault ≡ NoMarker) × NoMarkerBytes tail) ⊎ TailReveals rule before fault tail))

-- THE RESULT OF THE BYTES at their last one

-- fill bytes, a marker, a byte of the length, or fewer bytes than the length counts
abbrev pub PartOfSegment : List Segment → List ℕ → Type 0
PartOfSegment before tail =
    ((fill : ℕ) × (tail ≡ replicate fill 255))
    ⊎ ((code : ℕ) × (marker : List ℕ) × BeginsSegment before code marker
    × (((tail ≡ marker) × (is_frame_code code ≡ false))
    ⊎ (((high : ℕ) × (tail ≡ marker ++ high ∷ []) × (high < 256))
    ⊎ ((high : ℕ) × (low : ℕ) × (contents : List ℕ) × (tail ≡ marker ++ high ∷ low ∷ contents) × (high < 256) × (low < 256)
    × (length contents + 2 < two_bytes high low)))))

-- SOI; the marker of a frame header; EOI; a complete segment; a fault; or none of these yet
pub data Reached : Type 0 where
  at_soi : Reached
  at_frame : Reached
  at_eoi : Reached
  at_segment : Segment → Reached
  at_fault : Fault → Reached
  at_part : Reached

abbrev pub Reaches : Rule → List ℕ → Reached → Type 0
Reaches rule bytes at_soi = bytes ≡ soi
Reaches rule bytes at_frame =
    (before : List Segment) × (tail : List ℕ) × Between rule bytes before tail × ((code : ℕ) × BeginsSegment before code tail × (is_frame_code code ≡ true))
Reaches rule bytes at_eoi = (before : List Segment) × (tail : List ℕ) × Between rule bytes before tail × SpellsMarker 0xd9 tail × (code_fault before 0xd9 ≡ None)
Reaches rule bytes (at_segment s) = (before : List Segment) × SpellsSegments (s ∷ before) bytes × Pass rule (s ∷ before)
Reaches rule bytes (at_fault f) = SegmentsReveal rule f bytes
Reaches rule bytes at_part = ((bytes ≡ []) ⊎ (bytes ≡ 255 ∷ [])) ⊎ ((before : List Segment) × (tail : List ℕ) × Between rule bytes before tail × PartOfSegment before tail × (tail ≡ [] → ⊥))

-- THE SHORTEST PREFIX that has a fault, and its first fault

abbrev pub IsLeast : (Fault → List ℕ → Type 0) → List ℕ → Fault → ℕ → Type 0
IsLeast shows bytes fault n =
    (n ≤ length bytes) × shows fault (take n bytes)
    × ((other : Fault) (m : ℕ) → m < n → shows other (take m bytes) → ⊥)
    × ((other : Fault) → number_of other < number_of fault → shows other (take n bytes) → ⊥)
