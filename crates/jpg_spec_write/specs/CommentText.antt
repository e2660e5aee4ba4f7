-- COMMENTS: as rdjpgcom prints them, and a file with one inserted, as wrjpgcom writes it (T.81, B.2.4.5, Figure B.10;
-- the manuals of both).
use Rattle.std.specs.Prelude.{◌≡◌, ◌⊎◌, ℕ, ◌+◌, ◌/◌, ◌%◌, ◌<◌, ◌≤◌, Bool, true, false, not, ◌==◌, if◌then◌else◌, List, [], ◌∷◌, ◌++◌, length, take, flat_map, filter, reverse, None}
use Rattle.jpg_spec.specs.Lists.{is_empty}
use Rattle.jpg_spec_write.specs.FileText.{segment_text}
use Rattle.jpg_spec.specs.Markers.{Segment, soi, SpellsMarker, SpellsSegments, code_fault, has_scan, is_frame_code, is_within, kept_rule, Pass, Between, BeginsSegment, SegmentsReveal, IsLeast}
use Rattle.jpg_spec.specs.declared.fault.Fault.{Fault}
use Rattle.jpg_spec.specs.declared.fault.Fault.TheVariants.{Truncated, InputTooLong}
use Rattle.jpg_spec.specs.declared.frame.Limits.{Limits}

-- PRINTED

-- three octal digits
abbrev pub octal : ℕ → List ℕ
octal byte = (48 + byte / 64) ∷ (48 + byte / 8 % 8) ∷ (48 + byte % 8) ∷ []

-- CR is LF, LF after CR is nothing, a backslash is two, printable ASCII is as it is, and others are a backslash and
-- octal digits.
abbrev pub printed_byte : Bool → ℕ → List ℕ
printed_byte behind_cr byte =
    if byte == 13 then 10 ∷ []
    else if byte == 10 then (if behind_cr then [] else 10 ∷ [])
    else if byte == 92 then 92 ∷ 92 ∷ []
    else if is_within 32 126 byte then byte ∷ []
    else 92 ∷ octal byte

abbrev pub printed_from : Bool → List ℕ → List ℕ
printed_from behind_cr [] = []
printed_from behind_cr (byte ∷ bytes) = printed_byte behind_cr byte ++ printed_from (byte == 13) bytes

-- a comment, and then LF
abbrev pub printed : List ℕ → List ℕ
printed comment = printed_from false comment ++ 10 ∷ []

-- the comments among segments, the oldest first
abbrev pub comments_text : List Segment → List ℕ
comments_text [] = []
comments_text (s ∷ before) = comments_text before ++ (if s.0 == 0xfe then printed s.1 else [])

-- the greatest length of an inserted comment in bytes
abbrev pub longest_comment : ℕ
longest_comment = 65000

-- WHERE A FILE IS COMPLETE, for each of the two

-- for rdjpgcom: at the end of the first SOS segment, or at EOI before any; with the segments before it
abbrev pub IsReadWhole : Limits → List ℕ → List Segment → Type 0
IsReadWhole limits bytes before =
    ((contents : List ℕ) × SpellsSegments ((0xda, contents) ∷ before) bytes × Pass (kept_rule limits) ((0xda, contents) ∷ before) × (has_scan before ≡ false))
    ⊎ ((tail : List ℕ) × Between (kept_rule limits) bytes before tail × SpellsMarker 0xd9 tail × (code_fault before 0xd9 ≡ None) × (has_scan before ≡ false))

-- for wrjpgcom: at the code byte of the frame header's marker; with the segments before it and that code
abbrev pub IsFileFront : Limits → List ℕ → List Segment → ℕ → Type 0
IsFileFront limits bytes before code =
    (tail : List ℕ) × Between (kept_rule limits) bytes before tail × BeginsSegment before code tail × (is_frame_code code ≡ true)

-- FAULTS of markers and lengths, where the contents of segments aren't judged, except for the size of kept markers

abbrev pub SomeSegments : (List Segment → Type 0) → Type 0
SomeSegments of = (before : List Segment) × of before

-- no prefix of the bytes has a fault or is complete
abbrev pub RevealsNothing : Limits → (List ℕ → Type 0) → List ℕ → Type 0
RevealsNothing limits is_whole bytes = (n : ℕ) → n ≤ length bytes → ((fault : Fault) → SegmentsReveal (kept_rule limits) fault (take n bytes) → ⊥) × (is_whole (take n bytes) → ⊥)

-- the first fault of bytes of which no prefix is complete before it
abbrev pub IsMarkerFault : Limits → (List ℕ → Type 0) → List ℕ → Fault → ℕ → Type 0
IsMarkerFault limits is_whole bytes fault n =
    ((m : ℕ) → m < n → is_whole (take m bytes) → ⊥)
    × (((n ≤ limits.input) × IsLeast (SegmentsReveal (kept_rule limits)) bytes fault n)
    ⊎ (((fault ≡ InputTooLong) × (n ≡ limits.input) × (limits.input ≤ length bytes) × RevealsNothing limits is_whole (take n bytes))
    ⊎ ((fault ≡ Truncated) × (n ≡ length bytes) × (length bytes < limits.input) × RevealsNothing limits is_whole bytes)))

abbrev pub IsReadFault : Limits → List ℕ → Fault → ℕ → Type 0
IsReadFault limits bytes fault n = IsMarkerFault limits (λ front. SomeSegments (IsReadWhole limits front)) bytes fault n

abbrev pub IsHeadFault : Limits → List ℕ → Fault → ℕ → Type 0
IsHeadFault limits bytes fault n = IsMarkerFault limits (λ front. (code : ℕ) × SomeSegments (λ before. IsFileFront limits front before code)) bytes fault n

-- a wrjpgcom input is also too long if its head is complete
abbrev pub IsInsertFault : Limits → List ℕ → Fault → ℕ → Type 0
IsInsertFault limits bytes fault n =
    IsHeadFault limits bytes fault n ⊎ ((fault ≡ InputTooLong) × (n ≡ limits.input) × (limits.input ≤ length bytes)
    × ((code : ℕ) × (before : List Segment) × (m : ℕ) × (m ≤ limits.input) × IsFileFront limits (take m bytes) before code))

-- INSERTED

-- the segments of a head, each with one FF, the oldest first; without comments where they are replaced
abbrev pub head_segments : Bool → List Segment → List Segment
head_segments replace before = if replace then filter (λ s. not (s.0 == 0xfe)) (reverse before) else reverse before

-- a comment's segment, none where it is empty
abbrev pub comment_segment : List ℕ → List ℕ
comment_segment comment = if is_empty comment then [] else segment_text 0xfe comment

-- all that precedes the frame header's contents
abbrev pub inserted_head : List ℕ → Bool → List Segment → ℕ → List ℕ
inserted_head comment replace before code =
    soi ++ flat_map (λ s. segment_text s.0 s.1) (head_segments replace before) ++ comment_segment comment ++ 255 ∷ code ∷ []

-- The text is the bytes with the comment inserted before the frame header.
abbrev pub IsInserted : Limits → List ℕ → List ℕ → Bool → List ℕ → Type 0
IsInserted limits bytes comment replace text =
    (before : List Segment) × (code : ℕ) × (front : List ℕ) × (rest : List ℕ) × (bytes ≡ front ++ rest) × IsFileFront limits front before code
    × (text ≡ inserted_head comment replace before code ++ rest)
