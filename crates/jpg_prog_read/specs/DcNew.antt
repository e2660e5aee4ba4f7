-- The machines of DC scans before their first unit (T.81, B.2.3, G.1.1.1).
use Rattle.std.specs.Prelude.{◌≡◌, ℕ, ◌<◌, ◌≤◌, ◌^◌, true, List, ◌++◌, length, slice_index_or, Some, All}
use Rattle.std.specs.Option.{option_map}
use Rattle.jpg_spec.specs.Lists.{is_distinct}
use Rattle.jpg_spec.specs.Geometry.{Frame, bounds, is_progressive, units}
use Rattle.jpg_spec.specs.Segments.{ScanHead, head_components}
use Rattle.jpg_spec.specs.Scan.{TablesInForce, scan_coding}
use Rattle.jpg_spec.specs.Sound.{AreTables}
use Rattle.jpg_spec.specs.declared.frame.ScanPart.{ScanPart}
use Rattle.jpg_base.specs.Cursor.{AreIn}
use Rattle.jpg_huff.specs.declared.table.Table.{Table}
use Rattle.jpg_huff.specs.declared.set.TableSet.{TableSet}
use Rattle.jpg_huff.specs.Sets.{dc_tables, in_slot, no_tables}
use Rattle.jpg_huff.specs.Tables.{table_of}
use Rattle.jpg_coefs.specs.Picture.{map_of}
use Rattle.jpg_coefs.specs.Machine.{Interval}
use Rattle.jpg_prog_read.specs.declared.scan.DcScan.{DcScan}
use Rattle.jpg_prog_read.specs.declared.dc_first.DcFirst.{DcFirst}
use Rattle.jpg_prog_read.specs.DcPlaces.{IsDcBand}
use Rattle.jpg_prog_read.specs.DcFirstPass.{table_in}
use Rattle.jpg_prog_read.specs.DcLookedUp.{no_looks}
use Rattle.jpg_prog_read.specs.DcRefinement.{TakesOneBit}

-- A scan header of a progressive frame.
pub record IsDcHead (f : Frame) (head : ScanHead) : Type 0 where
  pub progressive : is_progressive f.process ≡ true
  pub components : AreIn f (head_components head)
  pub distinct : is_distinct (head_components head) ≡ true
  pub al : head.al ≤ (bounds f).al

-- the DC table of a part is there
pub record HasPartTable (set : TableSet) (p : ScanPart) : Type 0 where
  pub table : Table
  pub there : table_in set p.dc ≡ Some table

-- one of a first pass, whose DC tables are there; and one of a refinement
pub record IsFirstHead (f : Frame) (head : ScanHead) (set : TableSet) : Type 0 where
  pub is_head : IsDcHead f head
  pub first : head.ah ≡ 0
  pub tables : All (HasPartTable set) head.parts

pub record IsRefineHead (f : Frame) (head : ScanHead) : Type 0 where
  pub is_head : IsDcHead f head
  pub later : 1 ≤ head.ah

-- the valid tables in force, whose DC tables are those of a set
pub record AreInSet (set : TableSet) (tables : TablesInForce) : Type 0 where
  pub valid : AreTables tables
  pub dc : (slot : ℕ) → tables 0 slot ≡ option_map table_of (in_slot (dc_tables set) slot)

-- an interval of the scan, before its first unit
pub record IsOfScan (f : Frame) (tables : TablesInForce) (head : ScanHead) (i : Interval) : Type 0 where
  pub coding : i.scan.coding ≡ scan_coding f tables head
  pub sized : (k x y : ℕ) → length (map_of i.before k x y) ≡ 64
  pub places : i.places ++ i.later ≡ units f (head_components head)
  pub frame : i.before.frame ≡ f

-- one of a first pass by the tables of a set; and one of a refinement, which reads no table
pub record IsOfFirst (f : Frame) (head : ScanHead) (set : TableSet) (i : Interval) : Type 0 where
  pub tables : TablesInForce
  pub in_set : AreInSet set tables
  pub of_scan : IsOfScan f tables head i
  pub band : IsDcBand i.scan

pub record IsOfRefinement (f : Frame) (head : ScanHead) (i : Interval) : Type 0 where
  pub tables : TablesInForce
  pub of_scan : IsOfScan f tables head i
  pub kind : TakesOneBit i

-- the parameters of the machines
abbrev pub dc_scan_of : Frame → ℕ → DcScan
dc_scan_of f al = record { low = (bounds f).dc_low; high = (bounds f).dc_high; scale = 2 ^ al; most_category = (bounds f).dc_cat }

abbrev pub part_at : List ScanPart → ℕ → ScanPart
part_at parts j = slice_index_or parts j (record { component = 0; dc = 0; ac = 0 })

-- The tables of the first parts are in the slots of their components.
pub record AreDcTablesFilled (set : TableSet) (parts : List ScanPart) (n : ℕ) (own : TableSet) : Type 0 where
  pub four : length (dc_tables own) ≡ 4
  pub found : (k : ℕ) (table : Table) → table_in own k ≡ Some table → (j : ℕ) × (j < n) × ((part_at parts j).component ≡ k) × (table_in set (part_at parts j).dc ≡ Some table)
  pub there : (j : ℕ) → j < n → (table : Table) × (table_in own (part_at parts j).component ≡ Some table)

-- the machine of a first pass before its tables are put in
pub record IsBare (f : Frame) (head : ScanHead) (m : DcFirst) : Type 0 where
  pub scan : m.scan ≡ dc_scan_of f head.al
  pub tables : dc_tables m.tables ≡ no_tables
  pub looks : m.looks ≡ no_looks
  pub cursor : m.cursor ≡ units f (head_components head)
  pub four : length m.predictions ≡ 4
  pub left : m.left ≡ 0
