-- The machine of a progressive AC scan before its first unit.
use Rattle.std.specs.Prelude.{◌≡◌, ℕ, ◌+◌, ◌^◌, ◌≤◌, true, nat_lt, if◌then◌else◌, ◌++◌, length, pos, Some, All}
use Rattle.std.specs.Option.{option_map}
use Rattle.jpg_spec.specs.Geometry.{Frame, bounds, is_progressive, units}
use Rattle.jpg_spec.specs.Segments.{ScanHead, head_components}
use Rattle.jpg_spec.specs.Scan.{TablesInForce, scan_coding}
use Rattle.jpg_spec.specs.ScanContents.{are_parameters}
use Rattle.jpg_spec.specs.Sound.{AreTables}
use Rattle.jpg_spec.specs.declared.frame.ScanPart.{ScanPart}
use Rattle.jpg_base.specs.Cursor.{AreIn}
use Rattle.jpg_huff.specs.declared.table.Table.{Table}
use Rattle.jpg_huff.specs.declared.set.TableSet.{TableSet}
use Rattle.jpg_huff.specs.Sets.{ac_tables, in_slot}
use Rattle.jpg_huff.specs.Tables.{table_of}
use Rattle.jpg_coefs.specs.Picture.{map_of}
use Rattle.jpg_coefs.specs.Machine.{Interval}
use Rattle.jpg_prog_read.specs.declared.scan.BandScan.{BandScan}
use Rattle.jpg_prog_read.specs.RepresentsAcScan.{IsAcInterval}

-- the AC table of a part is there
pub record HasAcTable (set : TableSet) (p : ScanPart) : Type 0 where
  pub ac : Table
  pub in_ac : in_slot (ac_tables set) p.ac ≡ Some ac

-- a header of a band of AC in a progressive frame, whose table is there
pub record IsAcScan (f : Frame) (head : ScanHead) (set : TableSet) : Type 0 where
  pub progressive : is_progressive f.process ≡ true
  pub components : AreIn f (head_components head)
  pub parameters : are_parameters f (length head.parts) head ≡ true
  pub some : 1 ≤ head.ss
  pub tables : All (HasAcTable set) head.parts

-- the AC tables in force are those of the set, and all in force are valid
pub record AreAcTables (set : TableSet) (tables : TablesInForce) : Type 0 where
  pub same : (slot : ℕ) → tables 1 slot ≡ option_map table_of (in_slot (ac_tables set) slot)
  pub valid : AreTables tables

-- an interval of the scan, before its first unit
pub record IsOfAcScan (f : Frame) (head : ScanHead) (set : TableSet) (i : Interval) : Type 0 where
  pub tables : TablesInForce
  pub in_force : AreAcTables set tables
  pub coding : i.scan.coding ≡ scan_coding f tables head
  pub ss : i.scan.ss ≡ head.ss
  pub se : i.scan.se ≡ head.se
  pub kind : IsAcInterval i
  pub sized : (k x y : ℕ) → length (map_of i.before k x y) ≡ 64
  pub places : i.places ++ i.later ≡ units f (head_components head)
  pub frame : i.before.frame ≡ f

-- the machine's parameters, from such a header
pub record IsBandOf (f : Frame) (head : ScanHead) (b : BandScan) : Type 0 where
  pub start : b.start ≡ head.ss
  pub end : b.end ≡ head.se + 1
  pub scale : b.scale ≡ 2 ^ head.al
  pub categories : b.most_category ≡ (if nat_lt 0 head.ah then 1 else (bounds f).ac_cat)
  pub magnitude : pos b.most_magnitude ≡ (bounds f).ac
  pub refines : b.refines ≡ nat_lt 0 head.ah
