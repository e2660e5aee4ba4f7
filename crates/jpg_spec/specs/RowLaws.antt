-- TERMS OF THE LAWS on MCU rows that are decoded: what holds together in their premises, and what they conclude. No
-- definition uses them.
use Rattle.std.specs.Prelude.{◌≡◌, ◌⊎◌, ℕ, Bool, ◌+◌, ◌*◌, ◌%◌, ◌<◌, ◌≤◌, ℤ, List, [], ◌∷◌, ◌++◌, length, map, replicate}
use Rattle.jpg_spec.specs.Bits.{bits_of_bytes}
use Rattle.jpg_spec.specs.Lists.{joined}
use Rattle.jpg_spec.specs.Elements.{UnitLeft}
use Rattle.jpg_spec.specs.Parts.{StandsInUnits}
use Rattle.jpg_spec.specs.Scan.{Blocks, Scan, unit_at}
use Rattle.jpg_spec.specs.ScanFaults.{DataReveals}
use Rattle.jpg_spec.specs.FrameHeader.{AreLimits}
use Rattle.jpg_spec.specs.Meaning.{Meaning, real_blocks}
use Rattle.jpg_spec.specs.Markers.{Segment}
use Rattle.jpg_spec.specs.InForce.{frame_of}
use Rattle.jpg_spec.specs.Items.{Item, scan, segments_of}
use Rattle.jpg_spec.specs.FileMeaning.{Leads, Means}
use Rattle.jpg_spec.specs.FirstFault.{HoldsUnits}
use Rattle.jpg_spec.specs.Early.{MeansEarly}
use Rattle.jpg_spec.specs.PictureInWork.{AreDistinct, ScanSoFar, UnitsRead}
use Rattle.jpg_spec.specs.ScanReading.{LeadingMarker, ScanAt, ScanPlace, scan_at}
use Rattle.jpg_spec.specs.RowsParsed.{BeginsScanOfAll, CompletesRows, IsScanOfAll, TellsBlocks, TellsFirst, TellsRows, blocks_in, row_places, picture_so_far}
use Rattle.jpg_spec.specs.declared.fault.Fault.{Fault}
use Rattle.jpg_spec.specs.declared.frame.Limits.{Limits}
use Rattle.jpg_spec.specs.declared.frame.Place.{Place}

-- At least this many MCU rows are decoded.
pub record TellsMore (limits : Limits) (bytes : List ℕ) (rows : ℕ) : Type 0 where
  pub all : ℕ
  pub blocks : Blocks
  pub enough : rows ≤ all
  pub told : TellsRows limits bytes all blocks

-- the blocks of this many first ones, and zeros elsewhere
abbrev pub first_blocks : (limits : Limits) → (bytes : List ℕ) → (rows : ℕ) → TellsMore limits bytes rows → Blocks
first_blocks limits bytes rows w = (let place = (w.told).place in blocks_in (row_places limits (segments_of place.items) place.contents rows) w.blocks)

-- Items that break no rule, among them such a scan.
pub record HasScanOfAll (limits : Limits) (items : List Item) : Type 0 where
  pub blocks : Blocks
  pub leads : Leads limits items blocks
  pub more : List Item
  pub contents : List ℕ
  pub intervals : List (List ℕ)
  pub before : List Item
  pub joined : items ≡ more ++ scan contents intervals ∷ before
  pub of_all : IsScanOfAll limits (segments_of before) contents

-- places of a scan begin with those of this many MCU rows
abbrev pub HasRows : Limits → List Segment → List ℕ → List Place → ℕ → Type 0
HasRows limits before contents places rows = (more : List Place) × (places ≡ row_places limits before contents rows ++ more)

-- A file that means M, whose first scan has all components of a sequential frame.
pub record IsReadByRows (limits : Limits) (bytes : List ℕ) (M : Meaning) : Type 0 where
  pub limited : AreLimits limits
  pub means : Means limits bytes M
  pub before : List Segment
  pub contents : List ℕ
  pub begins : BeginsScanOfAll limits bytes before contents

-- the picture of these blocks at the end of its scan header
abbrev pub read_so_far : (limits : Limits) → (bytes : List ℕ) → (M : Meaning) → IsReadByRows limits bytes M → Blocks → Meaning
read_so_far limits bytes M w blocks = picture_so_far limits w.before w.contents blocks

-- WHAT A READER OF SUCH A SCAN HAS READ: the current picture, at a place inside its data

-- units of the current interval, whose bits its data bytes begin with
pub record ReadsUnits (limits : Limits) (p : ScanPlace) (now : Blocks) : Type 0 where
  pub leads : Leads limits p.items p.blocks
  pub of_all : IsScanOfAll limits (segments_of p.items) p.contents
  pub distinct : AreDistinct (scan_at limits p).places
  pub old : Blocks
  pub so_far : ScanSoFar (scan_at limits p) p.blocks old p.done (p.places ∷ p.later)
  pub part : List Place
  pub rest : List Place
  pub cut : p.places ≡ part ++ rest
  pub told : List ℤ
  pub read : UnitsRead (scan_at limits p) part old now told
  pub bits : List Bool
  pub behind : List Bool
  pub coded : bits_of_bytes p.coded ≡ bits ++ behind
  pub spelled : TellsFirst (scan_at limits p).coding (map (unit_at (scan_at limits p) old) p.places) told bits

-- the current interval, complete
pub record ReadsInterval (limits : Limits) (p : ScanPlace) (now : Blocks) : Type 0 where
  pub leads : Leads limits p.items p.blocks
  pub of_all : IsScanOfAll limits (segments_of p.items) p.contents
  pub so_far : ScanSoFar (scan_at limits p) p.blocks now (p.done ++ p.coded ∷ []) p.later

-- WHERE BYTES STOP in the data of such a scan, and this many MCU rows are complete

-- Of an interval's units no more are decoded than this many: its data bytes end in the next one, or have a fault in it,
-- or have all units.
abbrev pub TellsNoMore : Scan → Blocks → List Place → List ℕ → ℕ → Type 0
TellsNoMore s before places coded count =
    let units = map (unit_at s before) places in
    ((told : List ℤ) × (left : List UnitLeft) × StandsInUnits s.coding units told left (bits_of_bytes coded) × (length told < 64 * (count + 1)))
    ⊎ (((fault : Fault) × (shown : DataReveals s.coding units fault (bits_of_bytes coded)) × (length shown.told < 64 * (count + 1)))
    ⊎ (HoldsUnits s before places coded × (count ≡ length places)))

-- No data byte of the scan follows: only FF bytes do, or a marker, and after a complete interval not the one that the
-- next interval begins with.
abbrev pub HasNoMoreData : Scan → ScanPlace → List ℕ → Type 0
HasNoMoreData s p tail =
    ((fill : ℕ) × (tail ≡ replicate fill 255))
    ⊎ ((marker : LeadingMarker tail) × (HoldsUnits s p.blocks p.places p.coded → marker.code ≡ 0xd0 + length p.done % 8 → p.later ≡ []))

-- The bytes stop at a place inside the scan, where units of this many MCU rows are decoded, and not of one more.
pub record StopsInRows (limits : Limits) (bytes : List ℕ) (rows : ℕ) : Type 0 where
  pub place : ScanPlace
  pub tail : List ℕ
  pub at : ScanAt limits bytes place tail
  pub of_all : IsScanOfAll limits (segments_of place.items) place.contents
  pub places : List Place
  pub more : List Place
  pub told : Blocks
  pub tells : TellsBlocks (scan_at limits place) place.done place.coded places told
  pub first : places ≡ row_places limits (segments_of place.items) place.contents rows ++ more
  pub few : length places < length (row_places limits (segments_of place.items) place.contents (rows + 1))
  pub units : TellsNoMore (scan_at limits place) place.blocks place.places place.coded (length tells.part)
  pub last : HasNoMoreData (scan_at limits place) place tail

-- the blocks of these rows
abbrev pub stopped_blocks : (limits : Limits) → (bytes : List ℕ) → (rows : ℕ) → StopsInRows limits bytes rows → Blocks
stopped_blocks limits bytes rows w = blocks_in (row_places limits (segments_of (w.place).items) (w.place).contents rows) w.told

-- A READER of such a scan

-- The next unit has begun, and the bits encode these values of it; or they have a fault in it.
abbrev pub IsUnderWay : Scan → Blocks → List Place → List ℕ → List ℤ → ℕ → Type 0
IsUnderWay s old places coded told count =
    let units = map (unit_at s old) places in
    ((begun : List ℤ) × (left : List UnitLeft) × StandsInUnits s.coding units (told ++ begun) left (bits_of_bytes coded) × (length begun < 64))
    ⊎ ((fault : Fault) × (shown : DataReveals s.coding units fault (bits_of_bytes coded)) × (length shown.told < 64 * (count + 1)))

-- It read units of the current interval, with those of this many MCU rows, and the next one has begun.
pub record ReadsUnitsOfRows (limits : Limits) (bytes : List ℕ) (rows : ℕ) : Type 0 where
  pub place : ScanPlace
  pub tail : List ℕ
  pub at : ScanAt limits bytes place tail
  pub now : Blocks
  pub reads : ReadsUnits limits place now
  pub next : IsUnderWay (scan_at limits place) reads.old place.places place.coded reads.told (length reads.part)
  pub more : List Place
  pub first : joined reads.so_far.front ++ reads.part ≡ row_places limits (segments_of place.items) place.contents rows ++ more
  pub few : length (joined reads.so_far.front ++ reads.part) < length (row_places limits (segments_of place.items) place.contents (rows + 1))
  pub last : HasNoMoreData (scan_at limits place) place tail

-- It read units with those of at least this many MCU rows. What follows these bits doesn't matter.
pub record ReadsAtLeast (limits : Limits) (bytes : List ℕ) (rows : ℕ) : Type 0 where
  pub place : ScanPlace
  pub tail : List ℕ
  pub at : ScanAt limits bytes place tail
  pub now : Blocks
  pub reads : ReadsUnits limits place now
  pub more : List Place
  pub first : joined reads.so_far.front ++ reads.part ≡ row_places limits (segments_of place.items) place.contents rows ++ more

-- It read the complete current interval, with the units of this many MCU rows.
pub record ReadsWholeRows (limits : Limits) (bytes : List ℕ) (rows : ℕ) : Type 0 where
  pub place : ScanPlace
  pub tail : List ℕ
  pub at : ScanAt limits bytes place tail
  pub now : Blocks
  pub reads : ReadsInterval limits place now
  pub more : List Place
  pub first : joined reads.so_far.front ≡ row_places limits (segments_of place.items) place.contents rows ++ more
  pub few : length (joined reads.so_far.front) < length (row_places limits (segments_of place.items) place.contents (rows + 1))
  pub last : HasNoMoreData (scan_at limits place) place tail

-- the blocks of the rows in the current picture
abbrev pub blocks_read : Limits → ScanPlace → ℕ → Blocks → Blocks
blocks_read limits p rows now = blocks_in (row_places limits (segments_of p.items) p.contents rows) now

-- A FILE THAT ENDS EARLY in such a scan, or after it
pub record EndsEarlyByRows (limits : Limits) (bytes : List ℕ) (M : Meaning) : Type 0 where
  pub early : MeansEarly limits bytes M
  pub before : List Segment
  pub contents : List ℕ
  pub begins : BeginsScanOfAll limits bytes before contents

-- the picture of its blocks at the end of the scan header
abbrev pub early_so_far : (limits : Limits) → (bytes : List ℕ) → (M : Meaning) → EndsEarlyByRows limits bytes M → Meaning
early_so_far limits bytes M w = picture_so_far limits w.before w.contents M.blocks

-- Its bytes complete this many MCU rows, with these blocks.
pub record EndsEarlyInRows (limits : Limits) (bytes : List ℕ) (M : Meaning) (rows : ℕ) : Type 0 where
  pub limited : AreLimits limits
  pub ends : EndsEarlyByRows limits bytes M
  pub blocks : Blocks
  pub completed : CompletesRows limits bytes rows blocks

-- its blocks in this many first MCU rows, and the real ones of those that are complete
abbrev pub early_rows : (limits : Limits) → (bytes : List ℕ) → (M : Meaning) → (rows : ℕ) → EndsEarlyInRows limits bytes M rows → ℕ → Blocks
early_rows limits bytes M rows w n = blocks_in (row_places limits (w.ends).before (w.ends).contents n) M.blocks

abbrev pub complete_rows : (limits : Limits) → (bytes : List ℕ) → (M : Meaning) → (rows : ℕ) → EndsEarlyInRows limits bytes M rows → Blocks
complete_rows limits bytes M rows w = real_blocks (frame_of limits (w.ends).before) w.blocks
