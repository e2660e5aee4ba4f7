-- THE HEADER OF A FILE: its segments up to the first scan header (T.81, B.2.1). The scan header is judged here without
-- the tables in force.
use Rattle.std.specs.Prelude.{◌≡◌, ◌⊎◌, ℕ, false, ◌==◌, if◌then◌else◌, List, [], ◌∷◌, None}
use Rattle.jpg_spec.specs.ScanContents.{scan_header}
use Rattle.jpg_spec.specs.Markers.{Segment, Rule, SpellsMarker, SpellsSegments, code_fault, has_scan, Pass, RevealsNoStart, Between, NoMarkerBytes, BeginsSegment, TailReveals, PartOfSegment}
use Rattle.jpg_spec.specs.InForce.{frame_of}
use Rattle.jpg_spec.specs.Items.{fault_in, contents_rule}
use Rattle.jpg_spec.specs.declared.fault.Fault.{Fault}
use Rattle.jpg_spec.specs.declared.fault.Fault.TheVariants.{NotJpeg, NoMarker, MissingComponent}
use Rattle.jpg_spec.specs.declared.frame.Limits.{Limits}

abbrev pub header_rule : Limits → Rule
header_rule limits before code contents =
    if code == 0xda then fault_in (scan_header (frame_of limits before) contents) else contents_rule limits before code contents

-- segments that break no rule, none of them a scan header, and then bytes of one more
abbrev pub InHeader : Limits → List ℕ → List Segment → List ℕ → Type 0
InHeader limits bytes before tail = Between (header_rule limits) bytes before tail × (has_scan before ≡ false)

-- the fault that the header's last byte reveals: at an EOI all components are without a scan
abbrev pub HeaderReveals : Limits → Fault → List ℕ → Type 0
HeaderReveals limits fault bytes =
    ((fault ≡ NotJpeg) × RevealsNoStart bytes)
    ⊎ ((before : List Segment) × (tail : List ℕ) × InHeader limits bytes before tail
    × (((fault ≡ NoMarker) × NoMarkerBytes tail)
    ⊎ (TailReveals (header_rule limits) before fault tail ⊎ ((fault ≡ MissingComponent) × SpellsMarker 0xd9 tail × (code_fault before 0xd9 ≡ None)))))

-- the header isn't complete, and has no fault
abbrev pub UnfinishedHeader : Limits → List ℕ → Type 0
UnfinishedHeader limits bytes =
    ((bytes ≡ []) ⊎ (bytes ≡ 255 ∷ []))
    ⊎ ((before : List Segment) × (tail : List ℕ) × InHeader limits bytes before tail × (((code : ℕ) × BeginsSegment before code tail) ⊎ PartOfSegment before tail))

-- The bytes are a complete header: they end with the first scan header, of these contents, after these segments.
pub record IsHeader (limits : Limits) (bytes : List ℕ) (before : List Segment) (contents : List ℕ) : Type 0 where
  pub spelled : SpellsSegments ((0xda, contents) ∷ before) bytes
  pub passed : Pass (header_rule limits) ((0xda, contents) ∷ before)
  pub first : has_scan before ≡ false
