-- Between the items of a file: the meaning of a reader's states there, and the result of a further byte (T.81, B.1.1,
-- B.2.1).
use Rattle.std.specs.Prelude.{◌≡◌, ◌⊎◌, ℕ, ◌+◌, ◌≤◌, List, [], ◌∷◌, ◌++◌, length, take, None, Result, Ok, Err}
use Rattle.jpg_spec.specs.Scan.{Blocks}
use Rattle.jpg_spec.specs.Markers.{SpellsMarker, SpellsSegment, code_fault, kept_rule}
use Rattle.jpg_spec.specs.Items.{Item, segment, scan, segments_of}
use Rattle.jpg_spec.specs.FileMeaning.{Leads, no_blocks}
use Rattle.jpg_spec.specs.FirstFault.{Reveals}
use Rattle.jpg_spec.specs.ScanReading.{Beside}
use Rattle.jpg_spec.specs.declared.frame.Limits.{Limits}
use Rattle.jpg_markers.specs.Reading.{HasRoom, reading_of, RepresentsSegments, IsAfterScan}
use Rattle.jpg_base.specs.declared.stop.Stop.{Stop}
use Rattle.jpg_base.specs.declared.stop.Stop.TheVariants as stop
use Rattle.jpg_markers.specs.declared.segments.Phase.TheVariants as phase
use Rattle.jpg_markers.specs.declared.segments.SegStep.{SegStep}
use Rattle.jpg_markers.specs.declared.segments.SegStep.TheVariants as step
use Rattle.jpg_coefs.specs.Picture.{Picture, map_of}
use Rattle.jpg_file.specs.Read.SegmentState.{Holds, segments_view}
use Rattle.jpg_file.specs.Read.InData.{EndsData}
use Rattle.jpg_file.specs.declared.read.items.Items.{Items}
use Rattle.jpg_spec.specs.declared.frame.Copying.{Copying}

-- the limits of the input
abbrev pub limits_in : Items → Limits
limits_in w = (reading_of w.segments).limits

-- what it was begun with: which markers it keeps, and the limits
abbrev pub settings_in : Items → Copying × Limits
settings_in w = (w.held.keeping, limits_in w)

-- before SOI is complete
pub record IsStart (bytes sent : List ℕ) (items : List Item) (blocks : Blocks) : Type 0 where
  pub same : bytes ≡ sent
  pub short : (sent ≡ []) ⊎ (sent ≡ 255 ∷ [])
  pub no_items : items ≡ []
  pub blank : blocks ≡ no_blocks

-- after SOI: complete items, which lead to these blocks, and the same bytes of a further segment on both sides
pub record IsBeside (limits : Limits) (bytes sent : List ℕ) (items : List Item) (blocks : Blocks) (tail : List ℕ) : Type 0 where
  pub beside : Beside limits (kept_rule limits) sent bytes items tail
  pub leads : Leads limits items blocks

abbrev pub AtPlace : Limits → List ℕ → List ℕ → List Item → Blocks → Type 0
AtPlace limits bytes sent items blocks = IsStart bytes sent items blocks ⊎ ((tail : List ℕ) × IsBeside limits bytes sent items blocks tail)

-- The bytes are these items and a part of one more; the reader of segments was given the same except for the data of
-- scans.
pub record BetweenItems (limits : Limits) (bytes : List ℕ) (items : List Item) (blocks : Blocks) (w : Items) : Type 0 where
  pub sent : List ℕ
  pub stands : RepresentsSegments sent (segments_of items) (reading_of w.segments)
  pub at : AtPlace limits bytes sent items blocks
  pub bounded : (reading_of w.segments).limits ≡ limits
  pub holds : Holds limits (segments_view w.held) (segments_of items)

-- A segment is complete that isn't judged by its contents yet.
pub record AfterSegment (limits : Limits) (bytes : List ℕ) (items : List Item) (blocks : Blocks) (w : Items) : Type 0 where
  pub sent : List ℕ
  pub tail : List ℕ
  pub stands : RepresentsSegments sent (((reading_of w.segments).code, (reading_of w.segments).contents) ∷ segments_of items) (reading_of w.segments)
  pub at : IsBeside limits bytes sent items blocks tail
  pub spelled : SpellsSegment (reading_of w.segments).code (reading_of w.segments).contents tail
  pub allowed : code_fault (segments_of items) (reading_of w.segments).code ≡ None
  pub no_end : (reading_of w.segments).code ≡ 0xd9 → ⊥
  pub phase : (reading_of w.segments).phase ≡ phase.Between
  pub kept : kept_rule limits (segments_of items) (reading_of w.segments).code (reading_of w.segments).contents ≡ None
  pub bounded : (reading_of w.segments).limits ≡ limits
  pub holds : Holds limits (segments_view w.held) (segments_of items)

-- EOI is there
pub record BehindEnd (limits : Limits) (bytes : List ℕ) (items : List Item) (blocks : Blocks) (w : Items) : Type 0 where
  pub sent : List ℕ
  pub tail : List ℕ
  pub at : IsBeside limits bytes sent items blocks tail
  pub ended : SpellsMarker 0xd9 tail
  pub allowed : code_fault (segments_of items) 0xd9 ≡ None
  pub holds : Holds limits (segments_view w.held) (segments_of items)

-- no further item, or one that isn't a scan
abbrev pub AddsNoScan : List Item → List Item → Type 0
AddsNoScan items new = (new ≡ items) ⊎ ((code : ℕ) × (contents : List ℕ) × (new ≡ segment code contents ∷ items) × (code ≡ 0xda → ⊥))

abbrev pub AfterItem : Limits → List ℕ → List Item → Blocks → Result SegStep Stop → Items → Type 0
AfterItem limits bytes items blocks (Ok step.Whole) w = AfterSegment limits bytes items blocks w × ((reading_of w.segments).code ≡ 0xda)
AfterItem limits bytes items blocks (Ok step.Eoi) w = BehindEnd limits bytes items blocks w
AfterItem limits bytes items blocks (Ok goes) w = (new : List Item) × AddsNoScan items new × BetweenItems limits bytes new blocks w
AfterItem limits bytes items blocks (Err (stop.Fault f)) w = Reveals limits f.fault bytes × (f.at ≡ (reading_of w.segments).taken)
AfterItem limits bytes items blocks (Err stop.NoMemory) w = Unit {0}

-- What stays the same, and that room for the contents of a segment stays there.
pub record KeepsItems (old new : Items) : Type 0 where
  pub keeping : settings_in new ≡ settings_in old
  pub scanned : new.held.scanned ≡ old.held.scanned
  pub room : HasRoom old.segments → HasRoom new.segments

-- A BYTE outside scan data, and a segment that is judged: whatever the state was, this holds afterwards.
abbrev pub TakesItemByte : Items → ℕ → Result SegStep Stop → Items → Type 0
TakesItemByte old byte answer new =
    (bytes : List ℕ) (items : List Item) (blocks : Blocks) → BetweenItems (limits_in old) bytes items blocks old → AfterItem (limits_in old) (bytes ++ byte ∷ []) items blocks answer new

-- The first n of these bytes: fill bytes, contents of a segment before its last byte, a complete segment, or none.
pub record PassesItems (old : Items) (bytes : List ℕ) (n : ℕ) (new : Items) : Type 0 where
  pub within : n ≤ length bytes
  pub limits : limits_in new ≡ limits_in old
  pub taken : (reading_of new.segments).taken ≡ (reading_of old.segments).taken + n
  pub stands : (limits : Limits) (front : List ℕ) (items : List Item) (blocks : Blocks) → BetweenItems limits front items blocks old → AfterItem limits (front ++ take n bytes) items blocks (Ok step.More) new

abbrev pub JudgesSegment : Items → Result SegStep Stop → Items → Type 0
JudgesSegment old answer new =
    (limits : Limits) (bytes : List ℕ) (items : List Item) (blocks : Blocks) → AfterSegment limits bytes items blocks old → AfterItem limits bytes items blocks answer new

-- INSIDE A SCAN: the reader of segments is after its header
pub record BehindHead (limits : Limits) (items : List Item) (contents : List ℕ) (w : Items) : Type 0 where
  pub sent : List ℕ
  pub stands : RepresentsSegments sent ((0xda, contents) ∷ segments_of items) (reading_of w.segments)
  pub behind : IsAfterScan (reading_of w.segments)
  pub bounded : (reading_of w.segments).limits ≡ limits
  pub holds : Holds limits (segments_view w.held) ((0xda, contents) ∷ segments_of items)

-- the result of a marker: no segment is complete with it, and it asks for no memory
abbrev pub IsOfMarker : Result SegStep Stop → Type 0
IsOfMarker (Ok step.Whole) = ⊥
IsOfMarker (Err stop.NoMemory) = ⊥
IsOfMarker other = Unit {0}

-- after the marker that ended its data: the scan is an item, with these intervals
abbrev pub AfterScan : Limits → List Item → List ℕ → List ℕ → Blocks → Result SegStep Stop → Items → Type 0
AfterScan limits items contents bytes blocks answer w = (intervals : List (List ℕ)) × AfterItem limits bytes (scan contents intervals ∷ items) blocks answer w × IsOfMarker answer

-- the marker that ended the data of a scan
abbrev pub TakesMarker : Items → ℕ → Result SegStep Stop → Items → Type 0
TakesMarker old code answer new =
    (items : List Item) (contents bytes : List ℕ) (now : Picture) → BehindHead (limits_in old) items contents old → EndsData (limits_in old) items contents bytes code now
    → AfterScan (limits_in old) items contents bytes (map_of now) answer new
