-- WHICH MARKERS A READER KEEPS (the manual of jpegtran): those that are passed on, and those that may determine the
-- colours and the density.
use Rattle.std.specs.Prelude.{Bool, true, ◌||◌, ◌==◌, filter, ◌≡◌, ℕ, List, ◌∷◌, length, reverse, Option, Some, None, find, is_none, ◌&&◌, suc, ◌+◌, ◌<◌, ◌≤◌, false, if◌then◌else◌, [], map, Result, Ok, Err}
use Rattle.jpg_spec.specs.Jfif.{begins_jfif, begins_adobe, is_jfif, parsed_jfif}
use Rattle.jpg_spec.specs.Markers.{Segment, has_scan, is_kept_if, kept_after, kept_rule, has_frame}
use Rattle.jpg_spec.specs.Meaning.{Meaning}
use Rattle.jpg_spec.specs.declared.frame.Copying.{Copying}
use Rattle.jpg_spec.specs.declared.frame.Copying.TheVariants as copying
use Rattle.jpg_spec.specs.Lists.{any_of, all_of, below, is_among}
use Rattle.jpg_spec.specs.Geometry.{Frame, component_at, is_progressive}
use Rattle.jpg_spec.specs.Segments.{ScanHead, QuantTable}
use Rattle.jpg_spec.specs.HuffContents.{HuffmanSlots, huffman_in}
use Rattle.jpg_spec.specs.QuantContents.{Slots, quant_in}
use Rattle.jpg_spec.specs.InForce.{frame_after, huffman_in_force, quant_in_force, restart_in_force, first_some, frame_of, heads_of}
use Rattle.jpg_spec.specs.History.{needs_ac_table, needs_dc_table, has_begun, is_same_table, quant_of}
use Rattle.jpg_spec.specs.Items.{contents_rule}
use Rattle.jpg_spec.specs.declared.frame.Limits.{Limits}
use Rattle.jpg_spec.specs.declared.frame.ScanPart.{ScanPart}
use Rattle.jpg_spec.specs.declared.jfif.Jfif.{Jfif}
use Rattle.jpg_huff.specs.Definitions.{definitions_of}
use Rattle.jpg_file.specs.declared.read.segment_state.SegmentState.{SegmentState}
use Rattle.jpg_file.specs.declared.read.segment_state.SegmentTaken.{SegmentTaken}
use Rattle.jpg_file.specs.declared.read.segment_state.SegmentTaken.TheVariants as took
use Rattle.jpg_scans.specs.Progress.{RepresentsScans}
use Rattle.jpg_scans.specs.declared.progress.Progress.{Progress}
use Rattle.jpg_file.specs.declared.read.scan_history.ScanHistory.{ScanHistory}
use Rattle.jpg_spec.specs.ScanContents.{IsHead, scan_header}
use Rattle.jpg_spec.specs.declared.fault.Fault.{Fault}

abbrev pub begins_header : Segment → Bool
begins_header s = begins_jfif s.0 s.1 || begins_adobe s.0 s.1

abbrev pub is_wanted : Copying → Segment → Bool
is_wanted copying.None s = begins_header s
is_wanted copying.Comments s = s.0 == 0xfe || begins_header s
is_wanted copying.All s = true

-- the same picture with only these of its markers
abbrev pub kept_for : Copying → Meaning → Meaning
kept_for keeping M = record M { kept = filter (is_wanted keeping) M.kept }

-- What a reader of a file keeps of the segments so far.

-- what the segments so far define
pub record SegmentView : Type 0 where
  pub frame : Option Frame
  pub tables : HuffmanSlots
  pub quants : Slots
  pub interval : ℕ
  pub scanned : Bool
  pub keeping : Copying
  pub kept : List Segment
  pub jfif : Jfif

abbrev pub segments_view : SegmentState → SegmentView
segments_view h = record { frame = h.frame; tables = definitions_of h.tables; quants = h.quants; interval = h.interval; scanned = h.scanned; keeping = h.keeping; kept = h.kept; jfif = h.jfif }

-- It is what is in force after these segments, with those of the kept markers that are to be kept.
pub record Holds (limits : Limits) (h : SegmentView) (before : List Segment) : Type 0 where
  pub frame : h.frame ≡ frame_after limits before
  pub dc_slots : length h.tables.dc ≡ 4
  pub ac_slots : length h.tables.ac ≡ 4
  pub dc : (slot : ℕ) → huffman_in h.tables.dc slot ≡ huffman_in_force before 0 slot
  pub ac : (slot : ℕ) → huffman_in h.tables.ac slot ≡ huffman_in_force before 1 slot
  pub quant_slots : length h.quants ≡ 4
  pub quants : (slot : ℕ) → quant_in h.quants slot ≡ quant_in_force before slot
  pub interval : h.interval ≡ restart_in_force before
  pub scanned : h.scanned ≡ has_scan before
  pub kept : h.kept ≡ reverse (filter (is_wanted h.keeping) (kept_after before))
  pub jfif : h.jfif ≡ parsed_jfif (find is_jfif (kept_after before))

-- a part of a scan whose tables aren't all there
abbrev pub lacks_part : SegmentView → Frame → ScanHead → ScanPart → Bool
lacks_part h f head p =
    is_none (quant_in h.quants (component_at f p.component).quant)
    || (needs_dc_table f head && is_none (huffman_in h.tables.dc p.dc) || needs_ac_table f head && is_none (huffman_in h.tables.ac p.ac))

-- a scan that needs a table that isn't there
abbrev pub lacks_any : SegmentView → Frame → ScanHead → Bool
lacks_any h f head = any_of (lacks_part h f head) head.parts

-- a further segment, and the state after it
abbrev pub TakesSegment : Limits → List Segment → ℕ → List ℕ → SegmentTaken → SegmentView → Type 0
TakesSegment limits before code contents took.Done h = (contents_rule limits before code contents ≡ None) × Holds limits h ((code, contents) ∷ before)
TakesSegment limits before code contents (took.Fault fault) h = contents_rule limits before code contents ≡ Some fault
TakesSegment limits before code contents took.NoMemory h = Unit {0}

-- whatever segments led to the state, where there is room for what is kept of this one
abbrev pub HoldsSegment : SegmentView → Limits → ℕ → List ℕ → SegmentTaken → SegmentView → Type 0
HoldsSegment old limits code contents answer new =
    (before : List Segment) → Holds limits old before → kept_rule limits before code contents ≡ None → TakesSegment limits before code contents answer new

-- a segment that is to be kept
abbrev pub IsToKeep : SegmentState → ℕ → List ℕ → Type 0
IsToKeep h code contents = (is_kept_if h.scanned code contents ≡ true) × (is_wanted h.keeping (code, contents) ≡ true)

-- A segment that isn't taken changes nothing.
abbrev pub ChangesNothing : SegmentView → SegmentTaken → SegmentView → Type 0
ChangesNothing old took.Done new = Unit {0}
ChangesNothing old (took.Fault fault) new = new ≡ old
ChangesNothing old took.NoMemory new = new ≡ old

-- Only a segment that is to be kept asks for memory, and none does where no other markers are kept.
pub record KeepsSegments (old : SegmentState) (code : ℕ) (contents : List ℕ) (answer : SegmentTaken) (new : SegmentState) : Type 0 where
  pub same : ChangesNothing (segments_view old) answer (segments_view new)
  pub memory : old.keeping ≡ copying.None → old.scanned ≡ true → answer ≡ took.NoMemory → ⊥
  pub asks : answer ≡ took.NoMemory → IsToKeep old code contents
  pub scanned : new.scanned ≡ old.scanned
  pub keeping : new.keeping ≡ old.keeping

-- Which scans there were, and the quantisation table of each component at its first one (T.81, B.2.3, B.2.4.1,
-- G.1.1.1).

-- the table in force for a component, if it is named
abbrev pub quant_if : Frame → Slots → Bool → ℕ → Option QuantTable
quant_if f slots named i = if named then quant_in slots (component_at f i).quant else None

-- if one of these parts names it
abbrev pub quant_named : Frame → Slots → List ScanPart → ℕ → Option QuantTable
quant_named f slots parts i = quant_if f slots (is_among i (map (λ p. p.component) parts)) i

-- the table in force for a component is the one that is kept for it, if one is kept
abbrev pub is_same_kept : Slots → Frame → Slots → ℕ → Bool
is_same_kept kept f slots i = is_same_table (quant_in kept i) (quant_in slots (component_at f i).quant)

-- The scans of a frame so far had these heads, the newest first. There is no history before the first one.
abbrev pub RepresentsHeads : Option Progress → Frame → List ScanHead → Type 0
RepresentsHeads None f heads = heads ≡ []
RepresentsHeads (Some p) f heads = RepresentsScans p f heads

-- A further scan of the frame, where these tables are in force.
pub record AddsScan (f : Frame) (slots : Slots) (b new : ScanHistory) (head : ScanHead) : Type 0 where
  pub scans : (heads : List ScanHead) → RepresentsHeads b.progress f heads → RepresentsHeads new.progress f (head ∷ heads)
  pub quants : (i : ℕ) → quant_in new.quants i ≡ first_some (quant_in b.quants i) (quant_named f slots head.parts i)
  pub count : new.scans ≡ b.scans + 1

-- All components were in a scan, and the frame is sequential, whatever scans of whatever frame there were.
abbrev pub HasBegunAll : Option Progress → Type 0
HasBegunAll o =
    (f : Frame) (heads : List ScanHead) → RepresentsHeads o f heads → (is_progressive f.process ≡ false) × ((i : ℕ) → i < length f.components → has_begun heads i ≡ true)

-- whether each component of a frame was in a scan, whatever scans of whatever frame there were
abbrev pub IsComplete : Option Progress → Bool → Type 0
IsComplete o all = (f : Frame) (heads : List ScanHead) → 1 ≤ length f.components → RepresentsHeads o f heads → all ≡ all_of (has_begun heads) (below (length f.components))

-- Each component of some frame was in one of its scans, which are those so far.
pub record HasBegunEach (o : Option Progress) : Type 0 where
  pub frame : Frame
  pub heads : List ScanHead
  pub some : 1 ≤ length frame.components
  pub scans : RepresentsHeads o frame heads
  pub each : all_of (has_begun heads) (below (length frame.components)) ≡ true

-- how many of these segments are scan headers
abbrev pub scan_headers : List Segment → ℕ
scan_headers [] = 0
scan_headers (s ∷ before) = if s.0 == 0xda then suc (scan_headers before) else scan_headers before

pub record HasBegun (limits : Limits) (b : ScanHistory) (before : List Segment) : Type 0 where
  pub scans : RepresentsHeads b.progress (frame_of limits before) (heads_of (frame_of limits before) before)
  pub framed : is_none b.progress ≡ false → has_frame before ≡ true
  pub quants : (i : ℕ) → i < 4 → quant_in b.quants i ≡ quant_of (frame_of limits before) before i
  pub there : (i : ℕ) → i < 4 → has_begun (heads_of (frame_of limits before) before) i ≡ true → is_none (quant_in b.quants i) ≡ false
  pub count : b.scans ≡ scan_headers before

-- A complete segment of a scan header, judged (T.81, B.2.3, G.1.1.1).

-- a head that breaks no rule, with all tables that its scan needs, or the first fault
abbrev pub Judged : Limits → List Segment → List ℕ → Frame → SegmentView → Result ScanHead Fault → Type 0
Judged limits before contents f h (Ok head) = (contents_rule limits before 0xda contents ≡ None) × (scan_header f contents ≡ Ok head) × IsHead f head × (lacks_any h f head ≡ false)
Judged limits before contents f h (Err fault) = contents_rule limits before 0xda contents ≡ Some fault

-- whatever segments led to the state, and whatever scans there were
abbrev pub JudgesHead : List ℕ → Frame → SegmentView → ScanHistory → Result ScanHead Fault → Type 0
JudgesHead contents f h b answer =
    (limits : Limits) (before : List Segment) → frame_of limits before ≡ f → Holds limits h before → HasBegun limits b before → Judged limits before contents f h answer
