-- THE MCU ROWS OF A FIRST SCAN that the bytes of a file encode while it is read (T.81, A.2.3, B.1.1.5, E.1.4, F.2.2).
use Rattle.std.specs.Prelude.{◌≡◌, ℕ, ◌+◌, Bool, false, if◌then◌else◌, ℤ, List, [], ◌∷◌, ◌++◌, length, map, flat_map, None}
use Rattle.jpg_spec.specs.Bits.{bits_of_bytes}
use Rattle.jpg_spec.specs.Lists.{any_of, chunks, joined}
use Rattle.jpg_spec.specs.Elements.{Coding, Covers, Element, Standing, UnitLeft, at_start}
use Rattle.jpg_spec.specs.Geometry.{is_progressive}
use Rattle.jpg_spec.specs.Segments.{head_components}
use Rattle.jpg_spec.specs.Scan.{Blocks, Scan, SpellsIntervals, band, block_at, unit_at}
use Rattle.jpg_spec.specs.Markers.{Segment, has_scan}
use Rattle.jpg_spec.specs.InForce.{frame_of, head_in}
use Rattle.jpg_spec.specs.Items.{contents_rule, segments_of}
use Rattle.jpg_spec.specs.Header.{IsHeader}
use Rattle.jpg_spec.specs.FileMeaning.{no_blocks, scan_after, meaning_of}
use Rattle.jpg_spec.specs.FirstFault.{InsideScan}
use Rattle.jpg_spec.specs.PictureInWork.{is_at}
use Rattle.jpg_spec.specs.ScanRows.{first_rows}
use Rattle.jpg_spec.specs.declared.frame.Limits.{Limits}
use Rattle.jpg_spec.specs.declared.frame.Place.{Place}
use Rattle.jpg_spec.specs.Meaning.{Meaning}

-- THE SCAN: a sequential file's first one, which has all components of the frame

pub record IsScanOfAll (limits : Limits) (before : List Segment) (contents : List ℕ) : Type 0 where
  pub first : has_scan before ≡ false
  pub sequential : is_progressive (frame_of limits before).process ≡ false
  pub all : length (head_components (head_in (frame_of limits before) contents)) ≡ length (frame_of limits before).components

-- First bytes are the file's header, whose scan header breaks no rule and begins such a scan.
pub record BeginsScanOfAll (limits : Limits) (bytes : List ℕ) (before : List Segment) (contents : List ℕ) : Type 0 where
  pub front : List ℕ
  pub rest : List ℕ
  pub cut : bytes ≡ front ++ rest
  pub header : IsHeader limits front before contents
  pub unbroken : contents_rule limits before 0xda contents ≡ None
  pub of_all : IsScanOfAll limits before contents

-- its places in this many first MCU rows
abbrev pub row_places : Limits → List Segment → List ℕ → ℕ → List Place
row_places limits before contents rows = (let f = frame_of limits before in first_rows f (head_components (head_in f contents)) rows)

-- WHAT ITS DATA ENCODE

-- The bits encode these values, the first ones of the units of an interval.
abbrev pub TellsFirst : Coding → List UnitLeft → List ℤ → List Bool → Type 0
TellsFirst c units told bits = (elements : List Element) × (t : Standing) × Covers c (at_start units) elements told bits t

-- Complete intervals, and then first bits of the current one, encode the blocks at these places. What follows these
-- bits doesn't matter.
pub record TellsBlocks (s : Scan) (done : List (List ℕ)) (coded : List ℕ) (places : List Place) (told : Blocks) : Type 0 where
  pub whole : List (List Place)
  pub part : List Place
  pub rest : List Place
  pub later : List (List Place)
  pub bits : List Bool
  pub behind : List Bool
  pub intervals : chunks s.interval s.places ≡ whole ++ (part ++ rest) ∷ later
  pub all : places ≡ joined whole ++ part
  pub spelled : SpellsIntervals s no_blocks told whole done
  pub cut : bits_of_bytes coded ≡ bits ++ behind
  pub first : TellsFirst s.coding (map (unit_at s no_blocks) (part ++ rest)) (flat_map (λ p. band s (block_at told p)) part) bits
  pub sizes : (i x y : ℕ) → length (told i x y) ≡ 64

-- the blocks at these places, and zeros elsewhere
abbrev pub blocks_in : List Place → Blocks → Blocks
blocks_in places told i x y = if any_of (is_at i x y) places then told i x y else no_blocks i x y

-- This many MCU rows are decoded: first bytes end inside the data of such a scan, and encode the blocks of these rows.
-- All other blocks are zero.
pub record TellsRows (limits : Limits) (bytes : List ℕ) (rows : ℕ) (blocks : Blocks) : Type 0 where
  pub front : List ℕ
  pub rest : List ℕ
  pub cut : bytes ≡ front ++ rest
  pub place : InsideScan limits front []
  pub of_all : IsScanOfAll limits (segments_of place.items) place.contents
  pub places : List Place
  pub more : List Place
  pub told : Blocks
  pub tells : TellsBlocks (scan_after limits (segments_of place.items) place.contents) place.done place.coded places told
  pub first : places ≡ row_places limits (segments_of place.items) place.contents rows ++ more
  pub same : blocks ≡ blocks_in (row_places limits (segments_of place.items) place.contents rows) told

-- THE MCU ROWS that the bytes complete: this many, and not one more.
abbrev pub CompletesRows : Limits → List ℕ → ℕ → Blocks → Type 0
CompletesRows limits bytes rows blocks = TellsRows limits bytes rows blocks × ((more : Blocks) → TellsRows limits bytes (rows + 1) more → ⊥)

-- The picture of these blocks whose frame, quantisation tables and kept markers are those at the end of the first scan
-- header.
abbrev pub picture_so_far : Limits → List Segment → List ℕ → Blocks → Meaning
picture_so_far limits before contents blocks = (let all = (0xda, contents) ∷ before in meaning_of (frame_of limits all) all blocks)
