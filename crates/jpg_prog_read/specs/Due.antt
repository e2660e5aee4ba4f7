-- COMPLETE ELEMENTS: a machine between two bits was given complete elements and a part of one more (T.81, G.1.2).
use Rattle.std.specs.Prelude.{◌≡◌, ℕ, Bool, List, ◌∷◌, ◌++◌, ℤ}
use Rattle.jpg_spec.specs.Elements.{Coding, UnitLeft}
use Rattle.jpg_spec.specs.Parts.{WantsCorrection, StandsInUnits}
use Rattle.jpg_prog_read.specs.declared.stage.Stage.TheVariants.{Ends}
use Rattle.jpg_prog_read.specs.InWork.{InWork}
use Rattle.jpg_prog_read.specs.DcWork.{DcWork}
use Rattle.jpg_prog_read.specs.Stands.{UnitPlace, unit_left, RepresentsBandUnit, BetweenUnits}
use Rattle.jpg_prog_read.specs.RepresentsDcUnit.{RepresentsDcUnit, DcBetween, dc_unit}

-- in a unit of a band: the bits encode what is done of it, and the rest of it is left
abbrev pub BandIsDue : InWork → Type 0
BandIsDue s =
    (at : UnitPlace) (bits : List Bool)
    → RepresentsBandUnit at bits s → StandsInUnits at.coding at.units (at.told ++ s.done) (unit_left at s ∷ at.others) bits

-- between two of them, if an end-of-band run that goes on has a correction next
abbrev pub NextIsDue : InWork → Type 0
NextIsDue s =
    (c : Coding) (units : List UnitLeft) (told : List ℤ) (next : UnitLeft) (others : List UnitLeft) (bits : List Bool)
    → (s.stage ≡ Ends → WantsCorrection next) → BetweenUnits c units told (next ∷ others) bits s → StandsInUnits c units told (next ∷ others) bits

-- in a unit of a DC scan, all of which is left
abbrev pub DcIsDue : DcWork → Type 0
DcIsDue s =
    (at : UnitPlace) (p : ℕ → ℤ) (o : ℤ) (bits : List Bool)
    → RepresentsDcUnit at p o bits s → StandsInUnits at.coding at.units at.told (dc_unit at.component o ∷ at.others) bits

-- between two of them, in first passes and refinements
abbrev pub NextDcIsDue : Type 0
NextDcIsDue =
    (c : Coding) (units : List UnitLeft) (told : List ℤ) (p : ℕ → ℤ) (next : UnitLeft) (others : List UnitLeft) (bits : List Bool)
    → DcBetween c units told p (next ∷ others) bits → StandsInUnits c units told (next ∷ others) bits
