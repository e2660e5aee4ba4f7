-- WHAT A SEQUENTIAL SCAN can write, and the units that it writes (T.81, F.1.2.1, F.1.2.2).
use Rattle.std.specs.Prelude.{ℕ, Bool, false, List, map, flat_map, Some}
use Rattle.std.specs.List.{Contains}
use Rattle.jpg_spec.specs.Segments.{HuffmanTable, ScanHead, table_codes}
use Rattle.jpg_spec.specs.Elements.{Coding, IsBlockIn, SpellsUnits, new_unit, symbol_of}
use Rattle.jpg_spec.specs.Scan.{TablesInForce}
use Rattle.jpg_spec_write.specs.ScanText.{UnitDue, Owned, element_bits, interval_elements, table_place}

-- a block in the bounds of the coding
abbrev pub IsWritable : Coding → UnitDue → Type 0
IsWritable c u = IsBlockIn c.bounds u.1

-- tables of all classes and slots, each in force
abbrev pub all_in_force : (ℕ → ℕ → HuffmanTable) → TablesInForce
all_in_force tables class slot = Some (tables class slot)

-- the element's symbol has a code in the table of its class and slot
abbrev pub HasCode : (ℕ → ℕ → HuffmanTable) → ScanHead → Owned → Type 0
HasCode tables head e =
    (code : List Bool) × Contains (table_codes (tables (table_place head e).0 (table_place head e).1)) (code, symbol_of e.1)

-- the bits of the units of an interval, written by tables
abbrev pub sequential_bits : (ℕ → ℕ → HuffmanTable) → ScanHead → List UnitDue → List Bool
sequential_bits tables head due = flat_map (element_bits tables head) (interval_elements false head due)

-- The bits are an interval of these units, which had no scan so far, and encode their values.
abbrev pub SpellsDue : Coding → List UnitDue → List Bool → Type 0
SpellsDue c due bits = SpellsUnits c (map (λ u. new_unit u.0) due) (flat_map (λ u. u.1) due) bits
