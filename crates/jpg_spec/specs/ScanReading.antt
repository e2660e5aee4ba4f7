-- WHAT THE STATES OF A READER MEAN, between items and inside the data of a scan (T.81, B.1.1, B.2.1, F.2.2, G.1.2).
use Rattle.std.specs.Prelude.{◌≡◌, ◌⊎◌, ℕ, false, List, [], ◌∷◌, ◌++◌, replicate, map, None}
use Rattle.jpg_spec.specs.Bits.{bits_of_bytes}
use Rattle.jpg_spec.specs.Lists.{chunks}
use Rattle.jpg_spec.specs.Scan.{Blocks, Scan, unit_at}
use Rattle.jpg_spec.specs.ScanFaults.{DataReveals}
use Rattle.jpg_spec.specs.Markers.{SpellsMarker, SpellsSegment, code_fault, Rule, Between}
use Rattle.jpg_spec.specs.Items.{Item, scan, segments_of, SpellsFront, SpellsIntervalsText, ends_in_scan, contents_rule}
use Rattle.jpg_spec.specs.FileMeaning.{Leads, scan_after}
use Rattle.jpg_spec.specs.FirstFault.{AfterItems, HoldsUnits, HoldsAll}
use Rattle.jpg_spec.specs.declared.fault.Fault.{Fault}
use Rattle.jpg_spec.specs.declared.frame.Limits.{Limits}
use Rattle.jpg_spec.specs.declared.frame.Place.{Place}
use Rattle.jpg_spec.specs.UnfinishedFile.{Completes, AreDue}

-- The bytes begin with a marker.
pub record LeadingMarker (bytes : List ℕ) : Type 0 where
  pub code : ℕ
  pub marker : List ℕ
  pub rest : List ℕ
  pub spelled : SpellsMarker code marker
  pub cut : bytes ≡ marker ++ rest

-- Between items. The bytes given to a reader of segments leave out the data of scans, and fill bytes after them: the
-- same complete segments, and the same bytes of a further one after them.
pub record Beside (limits : Limits) (rule : Rule) (sent bytes : List ℕ) (items : List Item) (tail : List ℕ) : Type 0 where
  pub fill : ℕ
  pub between : Between rule sent (segments_of items) tail
  pub behind : AfterItems limits bytes items (replicate fill 255 ++ tail)
  pub plain : ((fill ≡ 0) × (ends_in_scan items ≡ false)) ⊎ LeadingMarker tail

-- A place inside scan data, with all that a reader keeps of it: the items and the blocks before the scan, the contents
-- of its header, the intervals done, the data bytes of the current one, its units, and the intervals after it.
pub record ScanPlace : Type 0 where
  pub items : List Item
  pub blocks : Blocks
  pub contents : List ℕ
  pub done : List (List ℕ)
  pub coded : List ℕ
  pub places : List Place
  pub later : List (List Place)

abbrev pub scan_at : Limits → ScanPlace → Scan
scan_at limits p = scan_after limits (segments_of p.items) p.contents

-- with one more data byte, and with the next interval begun
abbrev pub with_byte : ScanPlace → ℕ → ScanPlace
with_byte p byte = record p { coded = p.coded ++ byte ∷ [] }

abbrev pub with_interval : ScanPlace → List Place → List (List Place) → ScanPlace
with_interval p next others = record p { done = p.done ++ p.coded ∷ []; coded = []; places = next; later = others }

-- the scan as an item, when its data end here
abbrev pub scan_item : ScanPlace → Item
scan_item p = scan p.contents (p.done ++ p.coded ∷ [])

-- The bytes end at this place, with a tail after the data bytes: InsideScan by its place.
pub record ScanAt (limits : Limits) (bytes : List ℕ) (p : ScanPlace) (tail : List ℕ) : Type 0 where
  pub front : List ℕ
  pub head : List ℕ
  pub text : List ℕ
  pub cut : bytes ≡ front ++ head ++ text ++ tail
  pub spelled : SpellsFront p.items front
  pub header : SpellsSegment 0xda p.contents head
  pub intervals : SpellsIntervalsText 0 (p.done ++ p.coded ∷ []) text
  pub leads : Leads limits p.items p.blocks
  pub allowed : (code_fault (segments_of p.items) 0xda ≡ None) × (contents_rule limits (segments_of p.items) 0xda p.contents ≡ None)
  pub due : (let s = scan_at limits p in HoldsAll s p.blocks (chunks s.interval s.places) p.done (p.places ∷ p.later))

-- what the data bytes of the current interval are
abbrev pub HoldsAt : Limits → ScanPlace → Type 0
HoldsAt limits p = HoldsUnits (scan_at limits p) p.blocks p.places p.coded

abbrev pub CompletesAt : Limits → ScanPlace → Type 0
CompletesAt limits p = Completes (scan_at limits p) p.blocks p.places p.coded

abbrev pub IsDueAt : Limits → ScanPlace → Type 0
IsDueAt limits p = AreDue (scan_at limits p) p.blocks p.places p.coded

abbrev pub RevealsAt : Limits → ScanPlace → Fault → Type 0
RevealsAt limits p fault = DataReveals (scan_at limits p).coding (map (unit_at (scan_at limits p) p.blocks) p.places) fault (bits_of_bytes p.coded)
