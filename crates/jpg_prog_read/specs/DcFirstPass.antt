-- What the states of the machine of a first DC pass mean (T.81, G.1.2.1).
use Rattle.std.specs.Prelude.{◌≡◌, ℕ, ◌-◌, ◌<◌, Bool, List, length, drop, slice_set, slice_index_or, Option, Some, ℤ, pos, All}
use Rattle.jpg_spec.specs.Elements.{Coding}
use Rattle.jpg_spec.specs.declared.frame.Place.{Place}
use Rattle.jpg_huff.specs.declared.table.Table.{Table}
use Rattle.jpg_huff.specs.declared.set.TableSet.{TableSet}
use Rattle.jpg_huff.specs.Sets.{dc_tables, in_slot}
use Rattle.jpg_huff.specs.Tables.{symbol_codes}
use Rattle.jpg_coefs.specs.Picture.{Picture}
use Rattle.jpg_coefs.specs.Machine.{Interval, Kind}
use Rattle.jpg_prog_read.specs.declared.scan.DcScan.{DcScan}
use Rattle.jpg_prog_read.specs.declared.dc.DcStep.{DcStep}
use Rattle.jpg_prog_read.specs.declared.dc_first.DcFirst.{DcFirst}
use Rattle.jpg_prog_read.specs.DcWork.{DcWork, AreDcSane, IsDcOpen, fresh}
use Rattle.jpg_prog_read.specs.RepresentsDcUnit.{IsDcCodingOf, RepresentsDcUnit, AnswersDcBit}
use Rattle.jpg_prog_read.specs.DcLookedUp.{AreDcLookedUp, Hurries}
use Rattle.jpg_prog_read.specs.DcPlaces.{IsDcBand, InInterval, next_of, old_dc, IsWithin, IsNextInterval}

-- the table of a component, which is in the slot of its number
abbrev pub table_in : TableSet → ℕ → Option Table
table_in tables k = in_slot (dc_tables tables) k

abbrev pub prediction_at : DcFirst → ℕ → ℤ
prediction_at m k = slice_index_or m.predictions k (pos 0)

-- the table of the place's component is there
pub record HasTable (tables : TableSet) (p : Place) : Type 0 where
  pub table : Table
  pub there : table_in tables p.component ≡ Some table

-- the machine's parameters are those of the coding
pub record ReadsBy (b : DcScan) (tables : TableSet) (c : Coding) : Type 0 where
  pub sane : AreDcSane b
  pub codes : (k : ℕ) (table : Table) → table_in tables k ≡ Some table → IsDcCodingOf b (symbol_codes table) c k

-- Complete units, and a part of the next.
pub record RepresentsDcFirst (m : DcFirst) (i : Interval) (bits : List Bool) (now : Picture) : Type 0 where
  pub reads : ReadsBy m.scan m.tables i.scan.coding
  pub looks : AreDcLookedUp m.tables m.looks
  pub tables : All (HasTable m.tables) m.cursor
  pub four : length m.predictions ≡ 4
  pub at_work : IsDcOpen m.unit
  pub within : InInterval
  pub places : IsWithin m.cursor m.left i now within
  pub predictions : ℕ → ℤ
  pub predicts : (k : ℕ) → k < 4 → prediction_at m k ≡ predictions k
  pub stands : RepresentsDcUnit (next_of i within) predictions (old_dc i within) bits m.unit

-- an interval that it may begin
pub record FirstReady (m : DcFirst) (i : Interval) : Type 0 where
  pub reads : ReadsBy m.scan m.tables i.scan.coding
  pub looks : AreDcLookedUp m.tables m.looks
  pub tables : All (HasTable m.tables) m.cursor
  pub four : length m.predictions ≡ 4
  pub places : IsNextInterval m.cursor m.left i

abbrev pub first_pass : Kind DcFirst
first_pass = record { stands = RepresentsDcFirst; ready = FirstReady; left = λ m. m.left; fits = λ i. IsDcBand i.scan }

-- THE RESULTS OF ITS CALLS

-- the current unit is of this component, whose table is there
pub record CanRead (m : DcFirst) (k : ℕ) : Type 0 where
  pub small : k < 4
  pub sane : AreDcSane m.scan
  pub table : Table
  pub there : table_in m.tables k ≡ Some table
  pub looks : AreDcLookedUp m.tables m.looks
  pub at_work : IsDcOpen m.unit

abbrev pub ReadsBit : DcFirst → ℕ → Bool → DcStep → DcWork → Type 0
ReadsBit m k bit answer new =
    (table : Table) × (table_in m.tables k ≡ Some table) × AnswersDcBit m.scan (symbol_codes table) (prediction_at m k) m.unit bit answer new

-- bits are taken from a store, after which the unit goes on
abbrev pub HurriesUnit : DcFirst → ℕ → List Bool → DcWork → List Bool → Type 0
HurriesUnit m k store new rest = (table : Table) × (table_in m.tables k ≡ Some table) × Hurries m.scan (symbol_codes table) m.unit store new rest

-- with this current unit; and after a complete unit of a component, with its next prediction
abbrev pub with_unit : DcFirst → DcWork → DcFirst
with_unit m unit = record m { unit = unit }

abbrev pub behind_unit : DcFirst → ℕ → ℤ → DcFirst
behind_unit m k prediction = record m { predictions = slice_set m.predictions k prediction; unit = fresh; cursor = drop 1 m.cursor; left = m.left - 1 }
