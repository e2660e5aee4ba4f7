-- What bits of an interval mean, and what the reader of its bands returns (T.81, G.1.2.2, G.1.2.3).
use Rattle.std.specs.Prelude.{◌≡◌, ℕ, ◌+◌, ◌^◌, ◌<◌, true, false, Bool, List, [], ◌∷◌, ◌++◌, length, ℤ, pos}
use Rattle.jpg_spec.specs.Codes.{Code}
use Rattle.jpg_spec.specs.Elements.{Element, Coding, UnitLeft, Standing, Covers, at_start, are_in_bounds, zeros_in}
use Rattle.jpg_spec.specs.Parts.{band_unit, InCode, InNumber, InCount, InValue, InLong, InEnds}
use Rattle.jpg_spec.specs.ScanFaults.{DataReveals}
use Rattle.jpg_spec.specs.Sound.{IsSound}
use Rattle.jpg_coefs.specs.Machine.{fault_of}
use Rattle.jpg_prog_read.specs.declared.stage.Stage.{Stage}
use Rattle.jpg_prog_read.specs.declared.stage.Stage.TheVariants as stage
use Rattle.jpg_prog_read.specs.declared.scan.BandScan.{BandScan}
use Rattle.jpg_prog_read.specs.declared.band.BandStep.{BandStep}
use Rattle.jpg_prog_read.specs.declared.band.BandStep.TheVariants.{More, Done, Fault as Shown}
use Rattle.jpg_prog_read.specs.InWork.{InWork}

-- The coding of a band by these numbers, whose codes for a component are these.
pub record IsCodingOf (b : BandScan) (ac : List Code) (c : Coding) (i : ℕ) : Type 0 where
  pub sound : IsSound c
  pub scale : b.scale ≡ 2 ^ c.al
  pub categories : c.most_category ≡ b.most_category
  pub refines : c.refines ≡ b.refines
  pub runs : c.most_run ≡ 14
  pub bounds : c.bounds.ac ≡ pos b.most_magnitude
  pub ac_codes : c.ac i ≡ ac

-- A unit's place in its interval: how it is coded, the interval's units as they were, what those before it decoded to,
-- its component, and the units after it.
pub record UnitPlace : Type 0 where
  pub coding : Coding
  pub units : List UnitLeft
  pub told : List ℤ
  pub component : ℕ
  pub others : List UnitLeft

-- what is left of the current unit
abbrev pub unit_left : UnitPlace → InWork → UnitLeft
unit_left at s = band_unit at.component s.rest

-- which part of an element the machine has, whose bits these are and which encode these values
abbrev pub IsElementPart : UnitPlace → Standing → List ℤ → List Bool → InWork → Stage → Type 0
IsElementPart at mid here bits s stage.Code = (s.walked ≡ bits) × InCode at.coding mid (unit_left at s) at.others here bits
IsElementPart at mid here bits s stage.Number = (s.walked ≡ []) × InNumber at.coding mid (unit_left at s) at.others here bits s.run s.size s.extra
IsElementPart at mid here bits s stage.Count = (s.walked ≡ []) × InCount at.coding mid (unit_left at s) at.others here bits s.size s.extra
IsElementPart at mid here bits s stage.Value = (s.walked ≡ []) × InValue at.coding mid (unit_left at s) at.others here bits s.run s.due
IsElementPart at mid here bits s stage.Long = (s.walked ≡ []) × InLong at.coding mid (unit_left at s) at.others here bits s.run
IsElementPart at mid here bits s stage.Ends =
    (s.walked ≡ []) × InEnds at.coding mid (unit_left at s) at.others here bits s.bands × (zeros_in s.rest < s.run)

-- The bits are complete elements and a part of the next. They encode the values of complete units, and those of the
-- current one that are done.
pub record RepresentsBandUnit (at : UnitPlace) (bits : List Bool) (s : InWork) : Type 0 where
  pub elements : List Element
  pub before : List ℤ
  pub front : List Bool
  pub mid : Standing
  pub here : List ℤ
  pub part : List Bool
  pub covers : Covers at.coding (at_start at.units) elements before front mid
  pub split : bits ≡ front ++ part
  pub same : before ++ here ≡ at.told ++ s.done
  pub in_bounds : are_in_bounds at.coding.bounds false here ≡ true
  pub is_part : IsElementPart at mid here part s s.stage

-- between two units: no part of an element, or an end-of-band run that goes on
abbrev pub IsRest : Coding → Standing → List UnitLeft → List ℤ → List Bool → InWork → Stage → Type 0
IsRest c mid left here bits s stage.Code = (mid.left ≡ left) × (here ≡ []) × (bits ≡ [])
IsRest c mid left here bits s stage.Number = ⊥
IsRest c mid left here bits s stage.Count = ⊥
IsRest c mid left here bits s stage.Value = ⊥
IsRest c mid left here bits s stage.Long = ⊥
IsRest c mid left here bits s stage.Ends = (next : UnitLeft) × (others : List UnitLeft) × (left ≡ next ∷ others) × InEnds c mid next others here bits s.bands

-- The bits are complete elements, and perhaps an end-of-band run of which some bands have ended. They encode these
-- values of complete units, and these units are left.
pub record BetweenUnits (c : Coding) (units : List UnitLeft) (told : List ℤ) (left : List UnitLeft) (bits : List Bool) (s : InWork) : Type 0 where
  pub elements : List Element
  pub before : List ℤ
  pub front : List Bool
  pub mid : Standing
  pub here : List ℤ
  pub part : List Bool
  pub covers : Covers c (at_start units) elements before front mid
  pub split : bits ≡ front ++ part
  pub same : before ++ here ≡ told
  pub in_bounds : are_in_bounds c.bounds false here ≡ true
  pub quiet : s.walked ≡ []
  pub is_rest : IsRest c mid left here part s s.stage

-- the result at these bits of an interval
abbrev pub Answered : UnitPlace → List Bool → BandStep → InWork → Type 0
Answered at bits More new = RepresentsBandUnit at bits new
Answered at bits Done new = BetweenUnits at.coding at.units (at.told ++ new.done) at.others bits new
Answered at bits (Shown f) new = DataReveals at.coding at.units (fault_of f) bits

-- THE RESULTS OF CALLS, whatever bits the current unit was given

-- no bit is taken; and one is taken while this many units are left
abbrev pub AnswersStep : BandScan → InWork → BandStep → InWork → Type 0
AnswersStep b old step new =
    (ac : List Code) (at : UnitPlace) (bits : List Bool) → IsCodingOf b ac at.coding at.component → RepresentsBandUnit at bits old → Answered at bits step new

abbrev pub AnswersBit : BandScan → List Code → ℕ → InWork → Bool → BandStep → InWork → Type 0
AnswersBit b ac left old bit step new =
    (at : UnitPlace) (bits : List Bool) → IsCodingOf b ac at.coding at.component → left ≡ 1 + length at.others
    → RepresentsBandUnit at bits old → Answered at (bits ++ bit ∷ []) step new

-- this band follows the previous unit
abbrev pub AnswersBand : BandScan → List ℤ → InWork → BandStep → InWork → Type 0
AnswersBand b band old step new =
    (ac : List Code) (at : UnitPlace) (bits : List Bool) → IsCodingOf b ac at.coding at.component
    → BetweenUnits at.coding at.units at.told (band_unit at.component band ∷ at.others) bits old → Answered at bits step new

-- no fault
abbrev pub IsNoFault : BandStep → Type 0
IsNoFault More = Unit {0}
IsNoFault Done = Unit {0}
IsNoFault (Shown f) = ⊥

-- an end-of-band run has none as it goes on, in the current unit and in the next
abbrev pub PassesEnds : BandScan → InWork → BandStep → Type 0
PassesEnds b old step =
    (ac : List Code) (at : UnitPlace) (bits : List Bool) → IsCodingOf b ac at.coding at.component → RepresentsBandUnit at bits old → old.stage ≡ stage.Ends → IsNoFault step

abbrev pub BeginsQuietly : BandScan → List ℤ → InWork → BandStep → Type 0
BeginsQuietly b band old step =
    (ac : List Code) (at : UnitPlace) (bits : List Bool) → IsCodingOf b ac at.coding at.component
    → BetweenUnits at.coding at.units at.told (band_unit at.component band ∷ at.others) bits old → IsNoFault step
