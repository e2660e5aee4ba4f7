-- TERMS OF THE LAWS: what holds together in their premises, and what they conclude. No definition uses them.
use Rattle.std.specs.Prelude.{◌≡◌, ℕ, ◌+◌, ◌-◌, ◌<◌, ◌≤◌, Bool, false, List, [], ◌∷◌, ◌++◌, length, map, take, ℤ, Contains}
use Rattle.jpg_spec.specs.Bits.{Packs}
use Rattle.jpg_spec.specs.Codes.{Code}
use Rattle.jpg_spec.specs.Lists.{any_of}
use Rattle.jpg_spec.specs.Geometry.{Frame, bounds, is_progressive}
use Rattle.jpg_spec.specs.Elements.{Coding, UnitLeft, SpellsUnits, zeros, new_unit}
use Rattle.jpg_spec.specs.Scan.{Blocks, Scan, band, block_at, unit_at}
use Rattle.jpg_spec.specs.ScanFaults.{DataReveals}
use Rattle.jpg_spec.specs.Markers.{Segment, SpellsSegment, Rule, SegmentsReveal}
use Rattle.jpg_spec.specs.InForce.{frame_of}
use Rattle.jpg_spec.specs.Header.{HeaderReveals, IsHeader}
use Rattle.jpg_spec.specs.Items.{Item, segments_of}
use Rattle.jpg_spec.specs.Meaning.{Meaning}
use Rattle.jpg_spec.specs.FileMeaning.{scan_after}
use Rattle.jpg_spec.specs.FirstFault.{Reveals, IsFirstFault}
use Rattle.jpg_spec.specs.UnfinishedFile.{UnfinishedFile}
use Rattle.jpg_spec.specs.PictureInWork.{is_at, BeginsScan, AreDistinct, IntervalRead, UnitsRead, OneChanges, ScanSoFar}
use Rattle.jpg_spec.specs.declared.fault.Fault.{Fault}
use Rattle.jpg_spec.specs.declared.fault.Fault.TheVariants.{Truncated, InputTooLong}
use Rattle.jpg_spec.specs.declared.frame.Bounds.{Bounds}
use Rattle.jpg_spec.specs.declared.frame.Limits.{Limits}
use Rattle.jpg_spec.specs.declared.frame.Place.{Place}

-- BITS: what they begin with

pub record LeadingCode (table : List Code) (bits : List Bool) : Type 0 where
  pub code : Code
  pub rest : List Bool
  pub among : Contains table code
  pub cut : bits ≡ code.0 ++ rest

-- a complete interval of these units
pub record LeadingInterval (c : Coding) (units : List UnitLeft) (bits : List Bool) : Type 0 where
  pub told : List ℤ
  pub front : List Bool
  pub rest : List Bool
  pub spelled : SpellsUnits c units told front
  pub cut : bits ≡ front ++ rest

-- bits with a fault in the data of these units
pub record LeadingFault (c : Coding) (units : List UnitLeft) (bits : List Bool) : Type 0 where
  pub fault : Fault
  pub front : List Bool
  pub rest : List Bool
  pub shown : DataReveals c units fault front
  pub cut : bits ≡ front ++ rest

-- the bits of an interval, in bytes
pub record PackedInterval (c : Coding) (units : List UnitLeft) (coded : List ℕ) : Type 0 where
  pub told : List ℤ
  pub bits : List Bool
  pub packed : Packs bits coded
  pub spelled : SpellsUnits c units told bits

-- BYTES: what they begin with, other than a marker (T.81, B.1.1)

pub record LeadingSegment (bytes : List ℕ) : Type 0 where
  pub code : ℕ
  pub contents : List ℕ
  pub front : List ℕ
  pub rest : List ℕ
  pub spelled : SpellsSegment code contents front
  pub cut : bytes ≡ front ++ rest

pub record LeadingHeader (limits : Limits) (bytes : List ℕ) : Type 0 where
  pub before : List Segment
  pub contents : List ℕ
  pub front : List ℕ
  pub rest : List ℕ
  pub header : IsHeader limits front before contents
  pub cut : bytes ≡ front ++ rest

-- no shorter prefix of the bytes has a fault of their segments
abbrev pub NoFrontReveals : Rule → List ℕ → Type 0
NoFrontReveals rule bytes = (f : Fault) (n : ℕ) → n < length bytes → SegmentsReveal rule f (take n bytes) → ⊥

-- FAULTS, and their places

-- at most one fault, at one place
abbrev pub AtMostOneFault : (Fault → ℕ → Type 0) → Type 0
AtMostOneFault shows = (f g : Fault) (m n : ℕ) → shows f m → shows g n → (f ≡ g) × (m ≡ n)

-- some first bytes of these have a fault of their header
abbrev pub HeaderIsFaulty : Limits → List ℕ → Type 0
HeaderIsFaulty limits bytes = (fault : Fault) × (n : ℕ) × HeaderReveals limits fault (take n bytes)

-- byte n reveals a fault of their header
pub record HeaderRevealsAt (limits : Limits) (bytes : List ℕ) (fault : Fault) (n : ℕ) : Type 0 where
  pub within : n ≤ length bytes
  pub shown : HeaderReveals limits fault (take n bytes)

-- the bytes have no fault
abbrev pub NothingRevealed : Limits → List ℕ → Type 0
NothingRevealed limits bytes = (fault : Fault) → Reveals limits fault bytes → ⊥

-- The bytes are a faultless prefix, and are fewer than may be taken.
pub record StandsShort (limits : Limits) (bytes : List ℕ) : Type 0 where
  pub stands : UnfinishedFile limits bytes
  pub short : length bytes < limits.input

abbrev pub IsTruncated : Limits → List ℕ → Type 0
IsTruncated limits bytes = IsFirstFault limits bytes Truncated (length bytes)

abbrev pub IsInputTooLong : Limits → List ℕ → Type 0
IsInputTooLong limits bytes = IsFirstFault limits bytes InputTooLong limits.input

-- All but the last of the bytes are a faultless prefix, within the input's limit, and the last one reveals this fault.
pub record LastReveals (limits : Limits) (bytes : List ℕ) (fault : Fault) : Type 0 where
  pub front : List ℕ
  pub byte : ℕ
  pub cut : bytes ≡ front ++ byte ∷ []
  pub stands : UnfinishedFile limits front
  pub within : length front < limits.input
  pub shown : Reveals limits fault bytes

-- SCANS that are read (T.81, A.2, F.1.2 and G.1.1.1)

-- One more interval was read than before: the next one, whose bits its data bytes have.
pub record NextIntervalRead (s : Scan) (before new : Blocks) (done : List (List ℕ)) : Type 0 where
  pub left : List (List Place)
  pub work : Blocks
  pub earlier : List (List ℕ)
  pub coded : List ℕ
  pub bits : List Bool
  pub places : List Place
  pub all : done ≡ earlier ++ coded ∷ []
  pub distinct : AreDistinct s.places
  pub so_far : ScanSoFar s before work earlier (places ∷ left)
  pub packed : Packs bits coded
  pub read : IntervalRead s places work new bits

-- One more unit was read than before, at a place other than theirs.
pub record NextUnitRead (s : Scan) (places : List Place) (old new : Blocks) (told : List ℤ) : Type 0 where
  pub work : Blocks
  pub earlier : List Place
  pub place : Place
  pub told_earlier : List ℤ
  pub all_places : places ≡ earlier ++ place ∷ []
  pub all_told : told ≡ told_earlier ++ band s (block_at new place)
  pub apart : any_of (is_at place.component place.x place.y) earlier ≡ false
  pub so_far : UnitsRead s earlier old work told_earlier
  pub change : OneChanges s place work new

-- All units of the interval were read, and these are its bits.
pub record AllUnitsRead (s : Scan) (places : List Place) (old new : Blocks) : Type 0 where
  pub told : List ℤ
  pub bits : List Bool
  pub read : UnitsRead s places old new told
  pub spelled : SpellsUnits s.coding (map (unit_at s old) places) told bits

-- the frame after these items
abbrev pub frame_of_items : Limits → List Item → Frame
frame_of_items limits items = frame_of limits (segments_of items)

abbrev pub bounds_after : Limits → List Item → Bounds
bounds_after limits items = bounds (frame_of_items limits items)

abbrev pub IsSequentialAfter : Limits → List Item → Type 0
IsSequentialAfter limits items = is_progressive (frame_of_items limits items).process ≡ false

-- A scan that begins after some items, and a place of one of its components.
pub record ScanBegun (limits : Limits) : Type 0 where
  pub items : List Item
  pub blocks : Blocks
  pub contents : List ℕ
  pub place : Place
  pub begins : BeginsScan limits items blocks contents place

abbrev pub begun_scan : (limits : Limits) → ScanBegun limits → Scan
begun_scan limits b = scan_after limits (segments_of b.items) b.contents

-- nothing is known yet of the unit of this place, or of its band: it is all zeros
abbrev pub IsNewUnit : Scan → Blocks → Place → Type 0
IsNewUnit s blocks p = unit_at s blocks p ≡ new_unit p.component

abbrev pub IsZeroBand : Scan → Blocks → Place → Type 0
IsZeroBand s blocks p = band s (block_at blocks p) ≡ zeros (s.se + 1 - s.ss)

abbrev pub with_blocks : Meaning → Blocks → Meaning
with_blocks M others = record M { blocks = others }
