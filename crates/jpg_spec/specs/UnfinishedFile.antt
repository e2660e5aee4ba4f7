-- FAULTLESS PREFIXES: the first bytes of a file that have no fault, and aren't a complete file (T.81, B.1.1, B.2.1).
use Rattle.std.specs.Prelude.{◌≡◌, ◌⊎◌, ℕ, Bool, List, [], ◌∷◌, replicate, map, ℤ}
use Rattle.jpg_spec.specs.Bits.{Packs, bits_of_bytes}
use Rattle.jpg_spec.specs.Elements.{SpellsUnits}
use Rattle.jpg_spec.specs.Scan.{Blocks, Scan, unit_at}
use Rattle.jpg_spec.specs.ScanFaults.{DataReveals}
use Rattle.jpg_spec.specs.Meaning.{Meaning}
use Rattle.jpg_spec.specs.Markers.{BeginsSegment, PartOfSegment}
use Rattle.jpg_spec.specs.Items.{Item, segments_of}
use Rattle.jpg_spec.specs.FileMeaning.{scan_after, Means}
use Rattle.jpg_spec.specs.FirstFault.{AfterItems, HoldsUnits, InsideScan}
use Rattle.jpg_spec.specs.declared.fault.Fault.{Fault}
use Rattle.jpg_spec.specs.declared.frame.Limits.{Limits}
use Rattle.jpg_spec.specs.declared.frame.Place.{Place}

-- INSIDE SCAN DATA

-- the data bytes of an interval are its units, followed by fewer than eight bits
abbrev pub Completes : Scan → Blocks → List Place → List ℕ → Type 0
Completes s before places coded =
    (told : List ℤ) × ((bits : List Bool) × Packs bits coded × SpellsUnits s.coding (map (unit_at s before) places) told bits)

-- units are left: the data bytes don't have all of them, and have no fault
abbrev pub AreDue : Scan → Blocks → List Place → List ℕ → Type 0
AreDue s before places coded =
    (HoldsUnits s before places coded → ⊥) × ((fault : Fault) → DataReveals s.coding (map (unit_at s before) places) fault (bits_of_bytes coded) → ⊥)

-- Units are left, or the interval is complete and a marker is expected. After the data bytes there are only FF bytes.
abbrev pub StandsInside : (limits : Limits) → (bytes : List ℕ) → (tail : List ℕ) → InsideScan limits bytes tail → Type 0
StandsInside limits bytes tail w =
    let s = scan_after limits (segments_of w.items) w.contents in
    ((fill : ℕ) × (tail ≡ replicate fill 255)) × (AreDue s w.blocks w.places w.coded ⊎ Completes s w.blocks w.places w.coded)

-- AFTER ITEMS: bytes of a further one, of which some are missing
abbrev pub PartOfItem : List Item → List ℕ → Type 0
PartOfItem items tail = ((code : ℕ) × BeginsSegment (segments_of items) code tail) ⊎ PartOfSegment (segments_of items) tail

-- A FAULTLESS PREFIX: before its items, after items with a part of a segment, or inside scan data

abbrev pub UnfinishedFile : Limits → List ℕ → Type 0
UnfinishedFile limits bytes =
    ((bytes ≡ []) ⊎ (bytes ≡ 255 ∷ []))
    ⊎ (((items : List Item) × (tail : List ℕ) × AfterItems limits bytes items tail × PartOfItem items tail)
    ⊎ ((tail : List ℕ) × (w : InsideScan limits bytes tail) × StandsInside limits bytes tail w))

-- the bytes are a complete file: they mean this, and end with EOI
abbrev pub IsWholeFile : Limits → List ℕ → Meaning → Type 0
IsWholeFile limits bytes M = (w : Means limits bytes M) × (w.rest ≡ [])
