-- Scan headers of a frame's components, and the tables that they name.
use Rattle.std.specs.Prelude.{◌≡◌, ℕ, min, List, Some}
use Rattle.jpg_spec.specs.Segments.{ScanHead}
use Rattle.jpg_spec.specs.declared.frame.ScanPart.{ScanPart}
use Rattle.jpg_huff.specs.declared.table.Table.{Table}
use Rattle.jpg_huff.specs.declared.set.TableSet.{TableSet}
use Rattle.jpg_huff.specs.Sets.{dc_tables, ac_tables, in_slot}

-- component 0 has tables 0, the others have tables 1
abbrev pub part_for : ℕ → ScanPart
part_for i = record { component = i; dc = min i 1; ac = min i 1 }

abbrev pub head_for : List ScanPart → ScanHead
head_for parts = record { parts = parts; ss = 0; se = 63; ah = 0; al = 0 }

-- tables in slots 0 and 1
pub record HasFour (set : TableSet) : Type 0 where
  pub dc : Table
  pub in_dc : in_slot (dc_tables set) 0 ≡ Some dc
  pub ac : Table
  pub in_ac : in_slot (ac_tables set) 0 ≡ Some ac
  pub other_dc : Table
  pub in_other_dc : in_slot (dc_tables set) 1 ≡ Some other_dc
  pub other_ac : Table
  pub in_other_ac : in_slot (ac_tables set) 1 ≡ Some other_ac
