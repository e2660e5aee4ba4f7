-- What bits of an interval of a DC scan mean, and what the reader of its units returns (T.81, G.1.2.1).
use Rattle.std.specs.Prelude.{◌≡◌, ◌⊎◌, ℕ, ◌^◌, ◌≤◌, true, false, Bool, List, [], ◌∷◌, ◌++◌, ℤ}
use Rattle.jpg_spec.specs.Codes.{Code}
use Rattle.jpg_spec.specs.Elements.{Element, Coding, UnitLeft, Standing, Covers, at_start, predicted}
use Rattle.jpg_spec.specs.Parts.{InCode, InDifference}
use Rattle.jpg_spec.specs.ScanFaults.{DataReveals}
use Rattle.jpg_spec.specs.Sound.{IsSound}
use Rattle.jpg_coefs.specs.Machine.{fault_of}
use Rattle.jpg_prog_read.specs.declared.scan.DcScan.{DcScan}
use Rattle.jpg_prog_read.specs.declared.dc.DcStep.{DcStep}
use Rattle.jpg_prog_read.specs.declared.dc.DcStep.TheVariants.{More, Done, Fault}
use Rattle.jpg_prog_read.specs.DcWork.{DcWork}
use Rattle.jpg_prog_read.specs.Stands.{UnitPlace}

-- the coding of a DC scan by these numbers, whose codes for a component are these
pub record IsDcCodingOf (b : DcScan) (dc : List Code) (c : Coding) (i : ℕ) : Type 0 where
  pub sound : IsSound c
  pub scale : b.scale ≡ 2 ^ c.al
  pub first : c.refines ≡ false
  pub most : c.bounds.dc_cat ≡ b.most_category
  pub low : c.bounds.dc_low ≡ b.low
  pub high : c.bounds.dc_high ≡ b.high
  pub dc_codes : c.dc i ≡ dc

-- The coding of a refinement by these numbers.
pub record IsDcRefinementOf (b : DcScan) (c : Coding) : Type 0 where
  pub scale : b.scale ≡ 2 ^ c.al
  pub refines : c.refines ≡ true
  pub low : c.bounds.dc_low ≡ b.low
  pub high : c.bounds.dc_high ≡ b.high

-- a unit of a DC scan
abbrev pub dc_unit : ℕ → ℤ → UnitLeft
dc_unit i o = record { component = i; has_dc = true; old = o ∷ [] }

-- which part of a difference the machine has, whose bits these are
abbrev pub IsDcPart : UnitPlace → Standing → ℤ → List Bool → DcWork → Type 0
IsDcPart at mid o bits s =
    ((s.size ≡ 0) × (s.walked ≡ bits) × InCode at.coding mid (dc_unit at.component o) at.others [] bits)
    ⊎ ((1 ≤ s.size) × (s.walked ≡ []) × InDifference at.coding mid (dc_unit at.component o) at.others [] bits s.size s.extra)

-- The bits are complete units, which decode to these values and leave these predictions.
pub record DcBetween (c : Coding) (units : List UnitLeft) (told : List ℤ) (p : ℕ → ℤ) (others : List UnitLeft) (bits : List Bool) : Type 0 where
  pub elements : List Element
  pub mid : Standing
  pub covers : Covers c (at_start units) elements told bits mid
  pub left : mid.left ≡ others
  pub predicts : (j : ℕ) → mid.predictions j ≡ p j

-- The bits are complete units and a part of the next, whose old value this is.
pub record RepresentsDcUnit (at : UnitPlace) (p : ℕ → ℤ) (o : ℤ) (bits : List Bool) (s : DcWork) : Type 0 where
  pub front : List Bool
  pub part : List Bool
  pub whole : DcBetween at.coding at.units at.told p (dc_unit at.component o ∷ at.others) front
  pub split : bits ≡ front ++ part
  pub is_part : IsDcPart at whole.mid o part s

-- the result at these bits of an interval
abbrev pub DcAnswered : UnitPlace → (ℕ → ℤ) → ℤ → List Bool → DcStep → DcWork → Type 0
DcAnswered at p o bits More s = RepresentsDcUnit at p o bits s
DcAnswered at p o bits (Done w v) s = DcBetween at.coding at.units (at.told ++ v ∷ []) (predicted p at.component w) at.others bits
DcAnswered at p o bits (Fault f) s = DataReveals at.coding at.units (fault_of f) bits

-- THE RESULTS OF CALLS, whatever bits the current unit was given

-- a unit begins after complete ones
abbrev pub BeginsDc : DcWork → Type 0
BeginsDc new =
    (at : UnitPlace) (p : ℕ → ℤ) (o : ℤ) (bits : List Bool)
    → DcBetween at.coding at.units at.told p (dc_unit at.component o ∷ at.others) bits → RepresentsDcUnit at p o bits new

-- one more bit of a difference to this prediction, by these codes
abbrev pub AnswersDcBit : DcScan → List Code → ℤ → DcWork → Bool → DcStep → DcWork → Type 0
AnswersDcBit b dc prediction old bit step new =
    (at : UnitPlace) (p : ℕ → ℤ) (o : ℤ) (bits : List Bool) → IsDcCodingOf b dc at.coding at.component → p at.component ≡ prediction
    → RepresentsDcUnit at p o bits old → DcAnswered at p o (bits ++ bit ∷ []) step new

-- the bit of a refinement, which makes the old value o the new value v
abbrev pub AnswersDcRefinement : DcScan → ℤ → Bool → ℤ → Type 0
AnswersDcRefinement b o bit v =
    (at : UnitPlace) (p : ℕ → ℤ) (bits : List Bool) → IsDcRefinementOf b at.coding
    → DcBetween at.coding at.units at.told p (dc_unit at.component o ∷ at.others) bits
    → DcBetween at.coding at.units (at.told ++ v ∷ []) p at.others (bits ++ bit ∷ [])
