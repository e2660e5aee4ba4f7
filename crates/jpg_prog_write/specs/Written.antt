-- WHAT A PROGRESSIVE SCAN IS WRITTEN AS by given tables, and what can be written so (T.81, G.1.2, E.1.4).
use Rattle.std.specs.Prelude.{◌≡◌, ℕ, nat_lt, ◌==◌, true, if◌then◌else◌, List, [], length, slice_index_or, unwrap_or, ℤ, pos}
use Rattle.std.specs.Option.{option_map}
use Rattle.jpg_spec.specs.Codes.{Code}
use Rattle.jpg_spec.specs.Geometry.{Frame, is_progressive}
use Rattle.jpg_spec.specs.Segments.{HuffmanTable, ScanHead, head_components, table_codes}
use Rattle.jpg_spec.specs.ScanContents.{are_parameters}
use Rattle.jpg_spec_write.specs.Sending.{shifted}
use Rattle.jpg_spec.specs.Scan.{Blocks}
use Rattle.jpg_spec_write.specs.ScanText.{Owned, dc_element, scan_elements, scan_data}
use Rattle.jpg_spec.specs.declared.frame.ScanPart.{ScanPart}
use Rattle.jpg_base.specs.Cursor.{AreIn}
use Rattle.jpg_huff.specs.declared.set.TableSet.{TableSet}
use Rattle.jpg_coefs.specs.declared.intervals.GivenUnit.{GivenUnit}
use Rattle.jpg_huff.specs.Sets.{dc_tables, ac_tables, in_slot}
use Rattle.jpg_huff.specs.Tables.{table_of}

-- the tables of a set, by class (0 is DC, 1 is AC) and slot, and one without codes where there is none
abbrev pub no_codes : HuffmanTable
no_codes = record { counts = []; symbols = [] }

abbrev pub tables_in : TableSet → ℕ → ℕ → HuffmanTable
tables_in set class slot = unwrap_or (option_map table_of (in_slot (if class == 0 then dc_tables set else ac_tables set) slot)) no_codes

abbrev pub codes_in : TableSet → ℕ → ℕ → List Code
codes_in set class slot = table_codes (tables_in set class slot)

-- the data of the scan, with restart markers after each interval of MCUs (0: none)
abbrev pub written_data : Frame → ScanHead → TableSet → ℕ → Blocks → List ℕ
written_data f head set interval blocks = scan_data (tables_in set) head (scan_elements f head interval blocks)

-- a header of a progressive frame: one to four of its components, DC or a band of one of them, and its bits
pub record IsProgScan (f : Frame) (head : ScanHead) : Type 0 where
  pub progressive : is_progressive f.process ≡ true
  pub components : AreIn f (head_components head)
  pub parameters : are_parameters f (length head.parts) head ≡ true

-- UNITS

-- the element of a DC unit after another of its component
abbrev pub dc_unit : ScanHead → ℕ → ℤ → ℤ → Owned
dc_unit head i last v = (i, dc_element (nat_lt 0 head.ah) head.al (shifted head.al last) v)

-- that of a unit that is given
abbrev pub given_dc : ScanHead → GivenUnit → Owned
given_dc head unit = dc_unit head unit.component unit.last (slice_index_or unit.block.now 0 (pos 0))

-- the slot of a scan of one component
abbrev pub no_scan_part : ScanPart
no_scan_part = record { component = 0; dc = 0; ac = 0 }

abbrev pub first_slot : ScanHead → ℕ
first_slot head = (slice_index_or head.parts 0 no_scan_part).ac
