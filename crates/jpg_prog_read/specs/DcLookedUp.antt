-- The codes of a first DC pass, and bits of a unit that are taken at once.
use Rattle.std.specs.Prelude.{◌≡◌, ℕ, Bool, List, [], ◌∷◌, ◌++◌, Option, None, Some, slice_get, ℤ}
use Rattle.jpg_spec.specs.Codes.{Code}
use Rattle.jpg_spec.specs.Lists.{slot_value}
use Rattle.jpg_huff.specs.declared.set.TableSet.{TableSet}
use Rattle.jpg_huff.specs.declared.table.Table.{Table}
use Rattle.jpg_huff.specs.Sets.{dc_tables, in_slot}
use Rattle.jpg_huff.specs.Tables.{symbol_codes}
use Rattle.jpg_prog_read.specs.declared.scan.DcScan.{DcScan}
use Rattle.jpg_prog_read.specs.declared.dc.DcStep.TheVariants.{More}
use Rattle.jpg_prog_read.specs.declared.dc_looks.DcLooks.{DcLooks}
use Rattle.jpg_prog_read.specs.DcWork.{DcWork, IsDcOpen}
use Rattle.jpg_prog_read.specs.RepresentsDcUnit.{AnswersDcBit}

-- the codes in a slot, if any
abbrev pub dc_codes_at : DcLooks → ℕ → Option (List Code)
dc_codes_at looks slot = slot_value (slice_get looks.each slot)

-- no codes
abbrev pub no_looks : DcLooks
no_looks = record { each = None ∷ None ∷ None ∷ None ∷ [] }

-- codes that are those of the table in a slot, or none
abbrev pub IsOfSlot : TableSet → ℕ → Option (List Code) → Type 0
IsOfSlot tables slot found =
    (codes : List Code) → found ≡ Some codes → (table : Table) × (in_slot (dc_tables tables) slot ≡ Some table) × (codes ≡ symbol_codes table)

-- they are those of the tables in these slots
abbrev pub AreDcLookedUp : TableSet → DcLooks → Type 0
AreDcLookedUp tables looks =
    (k : ℕ) (table : Table) (codes : List Code) → in_slot (dc_tables tables) k ≡ Some table → dc_codes_at looks k ≡ Some codes → codes ≡ symbol_codes table

-- BITS after which the unit goes on

pub record DcGoesOn (b : DcScan) (dc : List Code) (old : DcWork) (bit : Bool) (new : DcWork) : Type 0 where
  pub goes_on : IsDcOpen new
  pub answered : (prediction : ℤ) → AnswersDcBit b dc prediction old bit More new

abbrev pub DcThrough : DcScan → List Code → DcWork → List Bool → DcWork → Type 0
DcThrough b dc old [] new = new ≡ old
DcThrough b dc old (bit ∷ bits) new = (mid : DcWork) × DcGoesOn b dc old bit mid × DcThrough b dc mid bits new

-- Such bits are taken from the start of a store, or none.
pub record Hurries (b : DcScan) (dc : List Code) (old : DcWork) (store : List Bool) (new : DcWork) (rest : List Bool) : Type 0 where
  pub bits : List Bool
  pub split : store ≡ bits ++ rest
  pub goes_on : IsDcOpen new
  pub through : DcThrough b dc old bits new
