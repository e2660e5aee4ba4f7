-- WHAT A FILE MEANS THAT ENDS EARLY (T.81, B.1.1.5, B.2.1, E.1.4, F.2.2, G.1.2; release 6b's libjpeg.doc): the blocks
-- of the complete units of its scans. The data of the last scan may end anywhere. Of the current interval the units
-- count whose bits are complete, and of those that one EOB ends the units whose corrections are complete. All others
-- are as they were before that scan. FF bytes and a part of an element or of an item don't count.
use Rattle.std.specs.Prelude.{◌≡◌, ◌⊎◌, ℕ, false, List, [], ◌∷◌, ◌++◌, length, map, replicate, Option, None, Some, ℤ}
use Rattle.jpg_spec.specs.Bits.{bits_of_bytes}
use Rattle.jpg_spec.specs.Elements.{UnitLeft}
use Rattle.jpg_spec.specs.Scan.{Blocks, Scan, unit_at}
use Rattle.jpg_spec.specs.Meaning.{Meaning}
use Rattle.jpg_spec.specs.Markers.{Segment}
use Rattle.jpg_spec.specs.InForce.{frame_of}
use Rattle.jpg_spec.specs.Items.{Item, segments_of, ends_in_scan}
use Rattle.jpg_spec.specs.FileMeaning.{meaning_of, scan_after, Means}
use Rattle.jpg_spec.specs.FirstFault.{AfterItems, InsideScan, IsEarly}
use Rattle.jpg_spec.specs.UnfinishedFile.{PartOfItem}
use Rattle.jpg_spec.specs.Parts.{StandsInUnits}
use Rattle.jpg_spec.specs.PictureInWork.{ScanSoFar, UnitsRead}
use Rattle.jpg_spec.specs.ScanReading.{LeadingMarker}
use Rattle.jpg_spec.specs.declared.frame.Limits.{Limits}
use Rattle.jpg_spec.specs.declared.frame.Place.{Place}

-- THE LAST SCAN (T.81, A.2, E.1.4, F.2.2, G.1.2)

-- The intervals done are complete, and of the current interval some first units. The picture afterwards has what they
-- encode. (The complete units encode `told`, and the current unit `part`.)
pub record UnitsWhole (s : Scan) (before : Blocks) (done : List (List ℕ)) (coded : List ℕ) (places : List Place) (later : List (List Place)) (after : Blocks) : Type 0 where
  pub work : Blocks
  pub whole : List Place
  pub due : List Place
  pub told : List ℤ
  pub part : List ℤ
  pub left : List UnitLeft
  pub so_far : ScanSoFar s before work done (places ∷ later)
  pub all : places ≡ whole ++ due
  pub count : length left ≡ length due
  pub stands : StandsInUnits s.coding (map (unit_at s before) places) (told ++ part) left (bits_of_bytes coded)
  pub read : UnitsRead s whole work after told

-- or the current interval is complete too
abbrev pub ScanInPart : Scan → Blocks → List (List ℕ) → List ℕ → List Place → List (List Place) → Blocks → Type 0
ScanInPart s before done coded places later after = UnitsWhole s before done coded places later after ⊎ ScanSoFar s before after (done ++ coded ∷ []) later

-- WHERE IT ENDS (T.81, B.1.1.2, B.2.1)

-- After complete items, with bytes of one more. (After the data of a scan these begin with a marker: FF bytes without a
-- code belong to the scan.)
pub record EndsAfter (limits : Limits) (bytes : List ℕ) (M : Meaning) : Type 0 where
  pub items : List Item
  pub tail : List ℕ
  pub behind : AfterItems limits bytes items tail
  pub part : PartOfItem items tail
  pub begun : (ends_in_scan items ≡ false) ⊎ LeadingMarker tail
  pub meaning : M ≡ meaning_of (frame_of limits (segments_of items)) (segments_of items) behind.blocks

-- the segments with the header of the current scan
abbrev pub segments_with : List Item → List ℕ → List Segment
segments_with items contents = (0xda, contents) ∷ segments_of items

-- Inside the data of a scan, with FF bytes after the data bytes.
pub record EndsInside (limits : Limits) (bytes : List ℕ) (M : Meaning) : Type 0 where
  pub tail : List ℕ
  pub at : InsideScan limits bytes tail
  pub after : Blocks
  pub fill : (n : ℕ) × (tail ≡ replicate n 255)
  pub scan : ScanInPart (scan_after limits (segments_of at.items) at.contents) at.blocks at.done at.coded at.places at.later after
  pub meaning : (let segments = segments_with at.items at.contents in M ≡ meaning_of (frame_of limits segments) segments after)

abbrev pub MeansEarly : Limits → List ℕ → Meaning → Type 0
MeansEarly limits bytes M = IsEarly limits bytes × (EndsAfter limits bytes M ⊎ EndsInside limits bytes M)

-- a complete file, or one that ends early, after this many bytes
abbrev pub MeansAs : Limits → Option ℕ → List ℕ → Meaning → Type 0
MeansAs limits None bytes M = Means limits bytes M
MeansAs limits (Some n) bytes M = MeansEarly limits bytes M × (n ≡ length bytes)

-- WHAT BYTES MEAN: a complete file, or one that ends early
abbrev pub IsMeaning : Limits → List ℕ → Meaning → Type 0
IsMeaning limits bytes M = Means limits bytes M ⊎ MeansEarly limits bytes M
