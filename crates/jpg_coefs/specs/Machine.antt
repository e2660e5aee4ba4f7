-- What the states of machines of all kinds of scan mean, and what one bit changes (T.81, F.2.2, G.2).
use Rattle.std.specs.Prelude.{◌≡◌, ℕ, ◌+◌, ◌<◌, ◌≤◌, Bool, List, [], ◌∷◌, ◌++◌, length, map, ℤ, Result, Ok, Err}
use Rattle.jpg_spec.specs.Elements.{UnitLeft}
use Rattle.jpg_spec.specs.Parts.{StandsInUnits}
use Rattle.jpg_spec.specs.PictureInWork.{IntervalRead, UnitsRead}
use Rattle.jpg_spec.specs.Scan.{Scan, unit_at}
use Rattle.jpg_spec.specs.ScanFaults.{DataReveals}
use Rattle.jpg_spec.specs.declared.frame.Place.{Place}
use Rattle.jpg_spec.specs.declared.fault.Fault.{Fault}
use Rattle.jpg_spec.specs.declared.fault.Fault.TheVariants as fault
use Rattle.jpg_coefs.specs.declared.machine.UnitFault.{UnitFault}
use Rattle.jpg_coefs.specs.declared.machine.UnitFault.TheVariants.{NoCode, BadSymbol, BadRun, CoefRange, RunPastEnd}
use Rattle.jpg_coefs.specs.declared.machine.UnitStep.{UnitStep}
use Rattle.jpg_coefs.specs.declared.machine.UnitStep.TheVariants.{More, IntervalDone}
use Rattle.jpg_coefs.specs.declared.machine.Taken.{Taken}
use Rattle.jpg_coefs.specs.declared.machine.Taken.TheVariants as taken
use Rattle.jpg_coefs.specs.Picture.{Picture, map_of}

-- An interval of a scan: its places, the places of the scan after it, and the picture before it.
pub record Interval : Type 0 where
  pub scan : Scan
  pub places : List Place
  pub later : List Place
  pub before : Picture

-- its units as they were before it
abbrev pub units_of : Interval → List UnitLeft
units_of i = map (unit_at i.scan (map_of i.before)) i.places

-- The bits are the complete interval, and the picture has what they encode.
pub record IsWholeInterval (i : Interval) (bits : List Bool) (now : Picture) : Type 0 where
  pub frame : now.frame ≡ i.before.frame
  pub read : IntervalRead i.scan i.places (map_of i.before) (map_of now) bits

-- Units are left: the bits are complete units, whose values (`whole`) are in the picture, followed by complete elements
-- of the units after them (which encode `part`) and a part of one more.
pub record IsUnfinished (i : Interval) (bits : List Bool) (now : Picture) (units : ℕ) : Type 0 where
  pub done : List Place
  pub due : List Place
  pub whole : List ℤ
  pub part : List ℤ
  pub left : List UnitLeft
  pub all : i.places ≡ done ++ due
  pub some : 1 ≤ units
  pub due_count : length due ≡ units
  pub left_count : length left ≡ units
  pub frame : now.frame ≡ i.before.frame
  pub read : UnitsRead i.scan done (map_of i.before) (map_of now) whole
  pub stands : StandsInUnits i.scan.coding (units_of i) (whole ++ part) left bits

abbrev pub fault_of : UnitFault → Fault
fault_of NoCode = fault.NoCode
fault_of BadSymbol = fault.BadSymbol
fault_of BadRun = fault.BadRun
fault_of CoefRange = fault.CoefRange
fault_of RunPastEnd = fault.RunPastEnd

-- an interval after this one, of any number of units of the scan
pub record Follows (i : Interval) (now : Picture) (j : Interval) : Type 0 where
  pub scan : j.scan ≡ i.scan
  pub before : j.before ≡ now
  pub places : j.places ++ j.later ≡ i.later

-- WHAT STATES MEAN. Of a machine M: which bits of which interval it was given and which picture there is then, which
-- interval it may begin, how many units of the interval are left, and which intervals are of its kind.
pub record Kind (M : Type 0) : Type 1 where
  pub stands : M → Interval → List Bool → Picture → Type 0
  pub ready : M → Interval → Type 0
  pub left : M → ℕ
  pub fits : Interval → Type 0

-- the invariant of each kind: in a machine's state, this many units are unfinished, and the interval is of its kind; and
-- none are left where it may begin an interval
pub record KeepsUnits (M : Type 0) (k : Kind M) : Type 0 where
  pub unfinished : (m : M) (i : Interval) (bits : List Bool) (now : Picture) → k.stands m i bits now → IsUnfinished i bits now (k.left m)
  pub fits : (m : M) (i : Interval) (bits : List Bool) (now : Picture) → k.stands m i bits now → k.fits i
  pub none_left : (m : M) (i : Interval) → k.ready m i → k.left m ≡ 0

-- The meaning of the result at these bits, and the picture, which was `then` before the last of them. The bit that
-- reveals a fault changes no block.
abbrev pub Answered : {M : Type 0} → Kind M → Interval → List Bool → Result UnitStep UnitFault → Picture → M → Picture → Type 0
Answered k i bits (Ok More) then m now = k.stands m i bits now
Answered k i bits (Ok IntervalDone) then m now = IsWholeInterval i bits now × ((j : Interval) → Follows i now j → k.fits j → k.ready m j)
Answered k i bits (Err f) then m now = DataReveals i.scan.coding (units_of i) (fault_of f) bits × (now ≡ then)

-- ONE BIT: whatever interval and bits the machine was given, its result is the one at these bits and this one.
abbrev pub Step : {M : Type 0} → Kind M → M → Picture → Bool → Result UnitStep UnitFault → M → Picture → Type 0
Step k m now bit answer new after = (i : Interval) (bits : List Bool) → k.stands m i bits now → Answered k i (bits ++ bit ∷ []) answer now new after

-- bits one after another, none of which ends the interval or reveals a fault
abbrev pub Chain : {M : Type 0} → Kind M → M → Picture → List Bool → M → Picture → Type 0
Chain k m now [] new after = (new ≡ m) × (after ≡ now)
Chain {M} k m now (bit ∷ bits) new after = (mid : M) × (between : Picture) × Step k m now bit (Ok More) mid between × Chain k mid between bits new after

-- whatever interval and bits it was given, after such bits it was given them too
abbrev pub StandsOn : {M : Type 0} → Kind M → M → Picture → List Bool → M → Picture → Type 0
StandsOn k m now bits new after = (i : Interval) (so_far : List Bool) → k.stands m i so_far now → k.stands new i (so_far ++ bits) after

-- bits that are such a chain except for the last, with its result
abbrev pub ChainTo : {M : Type 0} → Kind M → ℕ → M → Picture → List Bool → Result UnitStep UnitFault → M → Picture → Type 0
ChainTo {M} k most m now bits answer new after =
    (front : List Bool) × (bit : Bool) × (mid : M) × (between : Picture) × (bits ≡ front ++ bit ∷ []) × Chain k m now front mid between
    × (k.left m < k.left mid + most) × Step k mid between bit answer new after

-- the picture has the complete units of the bits before the last one, and all else is as before the interval
abbrev pub IsStill : Interval → List Bool → Picture → Type 0
IsStill i bits now = (front : List Bool) × (last : Bool) × (units : ℕ) × (bits ≡ front ++ last ∷ []) × IsUnfinished i front now units

-- this holds after bits with a fault
abbrev pub StillAtFaults : {M : Type 0} → Kind M → Type 0
StillAtFaults {M} k =
    (most : ℕ) (m new : M) (now after : Picture) (bits : List Bool) (f : UnitFault) → ChainTo k most m now bits (Err f) new after
    → (i : Interval) (so_far : List Bool) → k.stands m i so_far now → IsStill i (so_far ++ bits) after

-- the result of bits, where fewer than `most` units are to be completed before the last one
abbrev pub Ends : {M : Type 0} → Kind M → ℕ → M → Picture → List Bool → Taken → M → Picture → List Bool → Type 0
Ends k most m now bits taken.More new after rest = Chain k m now bits new after × (k.left m < k.left new + most) × (rest ≡ [])
Ends k most m now bits taken.Units new after rest = ChainTo k most m now bits (Ok More) new after × (k.left new + most ≤ k.left m) × (1 ≤ k.left new)
Ends k most m now bits taken.IntervalDone new after rest = ChainTo k most m now bits (Ok IntervalDone) new after
Ends k most m now bits (taken.Fault f) new after rest = ChainTo k most m now bits (Err f) new after

-- bits from the start of a store
abbrev pub TakesBits : {M : Type 0} → Kind M → ℕ → M → Picture → List Bool → Taken → M → Picture → List Bool → Type 0
TakesBits k most m now store answer new after rest = (bits : List Bool) × (store ≡ bits ++ rest) × Ends k most m now bits answer new after rest
