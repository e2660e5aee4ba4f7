-- What the states of the machine of a progressive AC scan mean (T.81, G.1.2.2, G.1.2.3).
use Rattle.std.specs.Prelude.{◌≡◌, ◌⊎◌, ℕ, ◌+◌, ◌-◌, ◌^◌, ◌≤◌, Bool, true, false, List, [], ◌∷◌, ◌++◌, length, map, take, drop, ℤ, nat_abs, slice_get, Some, All, Result}
use Rattle.jpg_spec.specs.Codes.{Code}
use Rattle.jpg_spec.specs.Elements.{Coding, UnitLeft, is_zero, zeros}
use Rattle.jpg_spec.specs.Geometry.{Frame}
use Rattle.jpg_spec.specs.PictureInWork.{AreDistinct, UnitsRead}
use Rattle.jpg_spec.specs.Scan.{Blocks, Scan, band, block_at, unit_at}
use Rattle.jpg_spec.specs.ScanFaults.{DataReveals}
use Rattle.jpg_spec.specs.declared.frame.Place.{Place}
use Rattle.jpg_base.specs.Cursor.{IsPadded}
use Rattle.jpg_coefs.specs.Picture.{Picture, map_of, block_in}
use Rattle.jpg_coefs.specs.Machine.{Interval, Kind, Answered, Follows, IsWholeInterval, fault_of, units_of}
use Rattle.jpg_coefs.specs.declared.machine.UnitFault.{UnitFault}
use Rattle.jpg_coefs.specs.declared.machine.UnitStep.{UnitStep}
use Rattle.jpg_prog_read.specs.declared.ac_reader.AcReader.{AcReader}
use Rattle.jpg_prog_read.specs.declared.band.BandStep.{BandStep}
use Rattle.jpg_prog_read.specs.declared.band.BandStep.TheVariants.{More, Done, Fault}
use Rattle.jpg_prog_read.specs.declared.scan.BandScan.{BandScan}
use Rattle.jpg_prog_read.specs.declared.stage.Stage.TheVariants as stage
use Rattle.jpg_prog_read.specs.InWork.{InWork, IsOpenBand, IsWholeUnit, HasNothing}
use Rattle.jpg_prog_read.specs.Stands.{IsCodingOf, UnitPlace, RepresentsBandUnit, BetweenUnits, IsNoFault}
use Rattle.jpg_prog_read.specs.ReaderSteps.{IsSaneBand}

-- INTERVALS OF THIS KIND

-- an old value that is zero, as all are in a first pass, or that a correction leaves within the bounds
abbrev pub HasCorrectionRoom : Coding → ℤ → Type 0
HasCorrectionRoom c o = (is_zero o ≡ true) ⊎ ((c.refines ≡ true) × (nat_abs o + 2 ^ c.al ≤ nat_abs c.bounds.ac))

-- all those of the band at a place
abbrev pub BandHasRoom : Scan → Blocks → Place → Type 0
BandHasRoom s before p = All (HasCorrectionRoom s.coding) (band s (block_at before p))

-- A band of AC whose old values have room for the next bit.
pub record IsAcInterval (i : Interval) : Type 0 where
  pub some : 1 ≤ i.scan.ss
  pub band : i.scan.ss ≤ i.scan.se
  pub most : i.scan.se ≤ 63
  pub room : All (BandHasRoom i.scan (map_of i.before)) (i.places ++ i.later)

-- after this one is read completely, whatever follows is of this kind
abbrev pub NextIsAc : Interval → Type 0
NextIsAc i = (bits : List Bool) (now : Picture) (j : Interval) → IsWholeInterval i bits now → Follows i now j → IsAcInterval j

-- THE MEANING OF ITS STATES

-- the machine's parameters are those of the scan
pub record ReadsBy (b : BandScan) (s : Scan) : Type 0 where
  pub sane : IsSaneBand b
  pub start : b.start ≡ s.ss
  pub end : b.end ≡ s.se + 1

-- a place of the picture, of a component whose codes are these
pub record IsReadable (b : BandScan) (codes : List Code) (f : Frame) (c : Coding) (p : Place) : Type 0 where
  pub padded : IsPadded f p.component p.x p.y
  pub coding : IsCodingOf b codes c p.component

-- all of these are
abbrev pub AreReadable : AcReader → Interval → List Place → Type 0
AreReadable m i places = All (IsReadable m.scan m.codes i.before.frame i.scan.coding) places

-- the units at these places as they were before the interval
abbrev pub units_at : Interval → List Place → List UnitLeft
units_at i places = map (unit_at i.scan (map_of i.before)) places

-- Some units of the interval are in the picture, and these are left.
pub record HasDue (m : AcReader) (i : Interval) (now : Picture) (done due : List Place) (whole : List ℤ) : Type 0 where
  pub reads : ReadsBy m.scan i.scan
  pub kind : IsAcInterval i
  pub distinct : AreDistinct (i.places ++ i.later)
  pub all : i.places ≡ done ++ due
  pub cursor : m.cursor ≡ due ++ i.later
  pub left : m.left ≡ length due
  pub spots : AreReadable m i (due ++ i.later)
  pub frame : now.frame ≡ i.before.frame
  pub read : UnitsRead i.scan done (map_of i.before) (map_of now) whole

-- the place of the current unit
abbrev pub place_of : Interval → Place → List Place → List ℤ → UnitPlace
place_of i next more whole = record { coding = i.scan.coding; units = units_of i; told = whole; component = next.component; others = units_at i more }

-- outside the band the current unit has the values of the block at its place
pub record IsOfBlock (m : AcReader) (now : Picture) (p : Place) : Type 0 where
  pub front : m.unit.front ≡ take m.scan.start (block_at (map_of now) p)
  pub behind : m.unit.behind ≡ drop m.scan.end (block_at (map_of now) p)

-- There is a current unit, and it needs a bit.
pub record IsInUnit (m : AcReader) (i : Interval) (bits : List Bool) (now : Picture) : Type 0 where
  pub done : List Place
  pub next : Place
  pub more : List Place
  pub whole : List ℤ
  pub has_due : HasDue m i now done (next ∷ more) whole
  pub begun : m.fresh ≡ false
  pub goes_on : IsOpenBand m.scan m.unit
  pub block : IsOfBlock m now next
  pub stands : RepresentsBandUnit (place_of i next more whole) bits m.unit

-- The current unit is complete.
pub record HasWhole (m : AcReader) (i : Interval) (bits : List Bool) (now : Picture) : Type 0 where
  pub done : List Place
  pub next : Place
  pub more : List Place
  pub whole : List ℤ
  pub has_due : HasDue m i now done (next ∷ more) whole
  pub ended : IsWholeUnit m.unit
  pub block : IsOfBlock m now next
  pub between : BetweenUnits i.scan.coding (units_of i) (whole ++ m.unit.done) (units_at i more) bits m.unit

-- There is no current unit.
pub record IsBetweenUnits (m : AcReader) (i : Interval) (bits : List Bool) (now : Picture) : Type 0 where
  pub done : List Place
  pub due : List Place
  pub whole : List ℤ
  pub has_due : HasDue m i now done due whole
  pub ended : IsWholeUnit m.unit
  pub between : BetweenUnits i.scan.coding (units_of i) whole (units_at i due) bits m.unit

-- Units are left, the first of which wasn't begun.
pub record IsBefore (m : AcReader) (i : Interval) (bits : List Bool) (now : Picture) : Type 0 where
  pub fresh : m.fresh ≡ true
  pub between : IsBetweenUnits m i bits now
  pub code : m.unit.stage ≡ stage.Code
  pub some : 1 ≤ m.left

abbrev pub RepresentsAcScan : AcReader → Interval → List Bool → Picture → Type 0
RepresentsAcScan m i bits now = IsBefore m i bits now ⊎ IsInUnit m i bits now

-- an interval that it may begin
pub record AcReady (m : AcReader) (i : Interval) : Type 0 where
  pub reads : ReadsBy m.scan i.scan
  pub kind : IsAcInterval i
  pub distinct : AreDistinct (i.places ++ i.later)
  pub sized : (k x y : ℕ) → length (map_of i.before k x y) ≡ 64
  pub cursor : m.cursor ≡ i.places ++ i.later
  pub left : m.left ≡ 0
  pub spots : AreReadable m i (i.places ++ i.later)

abbrev pub progressive_ac : Kind AcReader
progressive_ac = record { stands = RepresentsAcScan; ready = AcReady; left = λ m. m.left; fits = IsAcInterval }

-- with this current unit
abbrev pub with_unit_of : AcReader → InWork → AcReader
with_unit_of m unit = record m { unit = unit }

-- THE RESULTS OF CALLS, whatever interval and bits the machine was given

-- the result of the current unit at these bits
abbrev pub UnitAnswered : AcReader → Interval → List Bool → Picture → BandStep → Type 0
UnitAnswered m i bits now More = IsInUnit m i bits now
UnitAnswered m i bits now Done = HasWhole m i bits now
UnitAnswered m i bits now (Fault f) = DataReveals i.scan.coding (units_of i) (fault_of f) bits

-- a bit of the current unit; that unit's block is put at its place; the next one is begun
abbrev pub ReadsBit : AcReader → Bool → BandStep → AcReader → Type 0
ReadsBit old bit step new =
    (i : Interval) (bits : List Bool) (now : Picture) → IsInUnit old i bits now → UnitAnswered new i (bits ++ bit ∷ []) now step

abbrev pub PutsUnit : AcReader → Picture → AcReader → Picture → Type 0
PutsUnit old then new now = (i : Interval) (bits : List Bool) → HasWhole old i bits then → IsBetweenUnits new i bits now

abbrev pub TakesUnit : AcReader → Picture → BandStep → AcReader → Type 0
TakesUnit old now step new = (i : Interval) (bits : List Bool) → IsBetweenUnits old i bits now → UnitAnswered new i bits now step

-- no bit is taken, and there is no fault
abbrev pub TakesQuietly : AcReader → Picture → BandStep → Type 0
TakesQuietly old now step = (i : Interval) (bits : List Bool) → IsBetweenUnits old i bits now → IsNoFault step

-- the band of the next unit has only zeros
abbrev pub NextIsEmpty : AcReader → Interval → Type 0
NextIsEmpty m i = (p : Place) → slice_get m.cursor 0 ≡ Some p → band i.scan (block_at (map_of i.before) p) ≡ zeros (m.scan.end - m.scan.start)

-- the block at its place has another value in the band
abbrev pub NextHasSome : AcReader → Picture → Type 0
NextHasSome m now = (p : Place) → slice_get m.cursor 0 ≡ Some p → HasNothing m.scan (block_in now p.component p.x p.y) → ⊥

-- a unit of an end-of-band run whose band has only zeros is passed; and several are: no bit is taken, and no block changes
abbrev pub PassesUnit : AcReader → AcReader → Type 0
PassesUnit old new = (i : Interval) (bits : List Bool) (now : Picture) → NextIsEmpty old i → IsBetweenUnits old i bits now → IsBetweenUnits new i bits now

abbrev pub PassesUnits : AcReader → Picture → AcReader → Type 0
PassesUnits old now new = (i : Interval) (bits : List Bool) → IsBetweenUnits old i bits now → IsBetweenUnits new i bits now

-- the first unit is begun, if it wasn't yet
abbrev pub Settles : AcReader → Picture → AcReader → Type 0
Settles old now new = (i : Interval) (bits : List Bool) → RepresentsAcScan old i bits now → IsInUnit new i bits now

-- after a complete unit
abbrev pub BandsGoOn : AcReader → Picture → Result UnitStep UnitFault → AcReader → Picture → Type 0
BandsGoOn old then answer new now =
    (i : Interval) (bits : List Bool) → HasWhole old i bits then → Answered progressive_ac i bits answer then new now
