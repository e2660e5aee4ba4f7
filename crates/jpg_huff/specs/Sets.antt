-- What contracts see of a set of tables.
use Rattle.std.specs.Prelude.{◌≡◌, ℕ, List, length, [], ◌∷◌, map, Option, None, slice_get}
use Rattle.std.specs.Option.{option_map}
use Rattle.jpg_spec.specs.Lists.{slot_value}
use Rattle.jpg_spec.specs.HuffContents.{HuffmanSlots}
use Rattle.jpg_huff.specs.declared.table.Table.{Table}
use Rattle.jpg_huff.specs.declared.set.TableSet.{TableSet}
use Rattle.jpg_huff.specs.Tables.{table_of}

-- the table in a slot, if any
abbrev pub in_slot : List (Option Table) → ℕ → Option Table
in_slot tables slot = slot_value (slice_get tables slot)

-- the four slots for DC tables, and the four for AC tables
abbrev pub dc_tables : TableSet → List (Option Table)
dc_tables set = set.dc

abbrev pub ac_tables : TableSet → List (Option Table)
ac_tables set = set.ac

-- four slots of each class
pub record HasFour (set : TableSet) : Type 0 where
  pub dc : length (dc_tables set) ≡ 4
  pub ac : length (ac_tables set) ≡ 4

abbrev pub no_tables : List (Option Table)
no_tables = None ∷ None ∷ None ∷ None ∷ []

-- the slots of a set, with tables as counts and symbols
abbrev pub slots_of : TableSet → HuffmanSlots
slots_of set = record { dc = map (option_map table_of) (dc_tables set); ac = map (option_map table_of) (ac_tables set) }
