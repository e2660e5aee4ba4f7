-- WHAT A SCAN MEANS between the blocks before and after it (T.81, A.2, B.1.1.5, E.1.4, G.1.1.1).
use Rattle.std.specs.Prelude.{◌≡◌, ℕ, ◌+◌, ◌-◌, ◌*◌, Bool, false, nat_lt, nat_le, ◌&&◌, ◌==◌, if◌then◌else◌, List, [], ◌∷◌, length, take, drop, flat_map, map, slice_index_or, Option, Some, None, ℤ, pos}
use Rattle.jpg_spec.specs.Bits.{Packs}
use Rattle.jpg_spec.specs.Codes.{Code}
use Rattle.jpg_spec.specs.Lists.{any_of, chunks, index_of}
use Rattle.jpg_spec.specs.Geometry.{Frame, bounds, units, mcu_units, is_progressive}
use Rattle.jpg_spec.specs.Segments.{HuffmanTable, table_codes, ScanHead, head_components}
use Rattle.jpg_spec.specs.declared.frame.ScanPart.{ScanPart}
use Rattle.jpg_spec.specs.declared.frame.Place.{Place}
use Rattle.jpg_spec.specs.Elements.{Coding, UnitLeft, SpellsUnits}

-- the 64 values of a component's block at a column and a row, in zigzag order
abbrev pub Blocks : Type 0
Blocks = ℕ → ℕ → ℕ → List ℤ

-- the Huffman tables in force for a scan, by class (0 is DC, 1 is AC) and slot
abbrev pub TablesInForce : Type 0
TablesInForce = ℕ → ℕ → Option HuffmanTable

abbrev pub codes_of : Option HuffmanTable → List Code
codes_of None = []
codes_of (Some table) = table_codes table

abbrev pub part_of : ScanHead → ℕ → ScanPart
part_of head i = slice_index_or head.parts (index_of i (head_components head)) (record { component = i; dc = 0; ac = 0 })

-- a scan: its places in order, how many of them an interval has (0: all), its band, and its coding
pub record Scan : Type 0 where
  pub places : List Place
  pub interval : ℕ
  pub ss : ℕ
  pub se : ℕ
  pub coding : Coding

abbrev pub scan_coding : Frame → TablesInForce → ScanHead → Coding
scan_coding f tables head =
    let refines = is_progressive f.process && nat_lt 0 head.ah in
    record {
      bounds = bounds f;
      al = if is_progressive f.process then head.al else 0;
      refines = refines;
      most_category = if refines then 1 else (bounds f).ac_cat;
      most_run = if is_progressive f.process then 14 else 0;
      dc = λ i. codes_of (tables 0 (part_of head i).dc);
      ac = λ i. codes_of (tables 1 (part_of head i).ac);
    }

-- The scan that a header begins, with the tables and the restart interval (in MCUs, 0 for none) in force (A.2, B.2.3,
-- B.2.4.4). A sequential scan has the complete band, whatever its header says.
abbrev pub scan_of : Frame → TablesInForce → ℕ → ScanHead → Scan
scan_of f tables restart head = record {
  places = units f (head_components head);
  interval = restart * mcu_units f (head_components head);
  ss = if is_progressive f.process then head.ss else 0;
  se = if is_progressive f.process then head.se else 63;
  coding = scan_coding f tables head;
}

abbrev pub band : Scan → List ℤ → List ℤ
band s block = take (s.se + 1 - s.ss) (drop s.ss block)

abbrev pub block_at : Blocks → Place → List ℤ
block_at blocks p = blocks p.component p.x p.y

-- a unit of the scan, of which nothing is covered yet
abbrev pub unit_at : Scan → Blocks → Place → UnitLeft
unit_at s before p = record { component = p.component; has_dc = s.ss == 0; old = band s (block_at before p) }

-- the data bytes of an interval: its units' bits, and fewer than eight pad bits (F.1.2.3)
abbrev pub SpellsInterval : Scan → Blocks → Blocks → List Place → List ℕ → Type 0
SpellsInterval s before after places coded =
    (bits : List Bool) × Packs bits coded × SpellsUnits s.coding (map (unit_at s before) places) (flat_map (λ p. band s (block_at after p)) places) bits

abbrev pub SpellsIntervals : Scan → Blocks → Blocks → List (List Place) → List (List ℕ) → Type 0
SpellsIntervals s before after [] [] = Unit {0}
SpellsIntervals s before after [] (coded ∷ intervals) = ⊥
SpellsIntervals s before after (places ∷ later) [] = ⊥
SpellsIntervals s before after (places ∷ later) (coded ∷ intervals) =
    SpellsInterval s before after places coded × SpellsIntervals s before after later intervals

-- coefficient k of a block
abbrev pub coefficient : Blocks → ℕ → ℕ → ℕ → ℕ → ℤ
coefficient blocks i x y k = slice_index_or (blocks i x y) k (pos 0)

abbrev pub is_named : Scan → ℕ → ℕ → ℕ → ℕ → Bool
is_named s i x y k = any_of (λ p. p.component == i && p.x == x && p.y == y) s.places && nat_le s.ss k && nat_le k s.se

-- The scan leads from the blocks before to those after. What it doesn't send doesn't change.
pub record ScanMeans (s : Scan) (intervals : List (List ℕ)) (before after : Blocks) : Type 0 where
  pub spelled : SpellsIntervals s before after (chunks s.interval s.places) intervals
  pub rest : (i x y k : ℕ) → is_named s i x y k ≡ false → coefficient after i x y k ≡ coefficient before i x y k
  pub sizes : (i x y : ℕ) → length (after i x y) ≡ 64
