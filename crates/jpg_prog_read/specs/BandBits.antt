-- Bits of a unit of a band, one after another.
use Rattle.std.specs.Prelude.{◌≡◌, ℕ, ◌≤◌, Bool, List, [], ◌∷◌, ◌++◌, length, Contains}
use Rattle.jpg_spec.specs.Codes.{Code}
use Rattle.jpg_prog_read.specs.declared.scan.BandScan.{BandScan}
use Rattle.jpg_prog_read.specs.declared.band.BandStep.{BandStep}
use Rattle.jpg_prog_read.specs.declared.band.BandStep.TheVariants.{More, Done, Fault}
use Rattle.jpg_prog_read.specs.InWork.{InWork, IsOpenBand}
use Rattle.jpg_prog_read.specs.ReaderSteps.{StaysOpen, KeepsOtherValues}
use Rattle.jpg_prog_read.specs.Stands.{IsCodingOf, UnitPlace, RepresentsBandUnit, Answered, AnswersBit}

-- The last bit of a code has this result, whatever proper prefix of the code was walked before it.
abbrev pub AnswersSymbol : BandScan → InWork → ℕ → BandStep → InWork → Type 0
AnswersSymbol b old symbol step new =
    (ac : List Code) (at : UnitPlace) (bits front : List Bool) (last : Bool) → IsCodingOf b ac at.coding at.component
    → Contains ac (front ++ last ∷ [], symbol) → RepresentsBandUnit at bits (record old { walked = front }) → Answered at (bits ++ last ∷ []) step new

-- a bit after which the unit goes on
pub record BandGoesOn (b : BandScan) (ac : List Code) (left : ℕ) (old : InWork) (bit : Bool) (new : InWork) : Type 0 where
  pub goes_on : IsOpenBand b new
  pub outside : KeepsOtherValues old new
  pub answered : AnswersBit b ac left old bit More new

-- such bits
abbrev pub Through : BandScan → List Code → ℕ → InWork → List Bool → InWork → Type 0
Through b ac left old [] new = new ≡ old
Through b ac left old (bit ∷ bits) new = (mid : InWork) × BandGoesOn b ac left old bit mid × Through b ac left mid bits new

-- such bits, and one with this result
pub record EndsAt (b : BandScan) (ac : List Code) (left : ℕ) (old : InWork) (bits : List Bool) (step : BandStep) (new : InWork) : Type 0 where
  pub front : List Bool
  pub bit : Bool
  pub mid : InWork
  pub cut : bits ≡ front ++ bit ∷ []
  pub through : Through b ac left old front mid
  pub outside : KeepsOtherValues mid new
  pub answered : AnswersBit b ac left mid bit step new

-- the result of bits
abbrev pub BandComesTo : BandScan → List Code → ℕ → InWork → List Bool → BandStep → InWork → Type 0
BandComesTo b ac left old bits More new = Through b ac left old bits new
BandComesTo b ac left old bits Done new = EndsAt b ac left old bits Done new
BandComesTo b ac left old bits (Fault f) new = EndsAt b ac left old bits (Fault f) new

-- Some bits are taken from the start of a store.
pub record TakesBand (b : BandScan) (ac : List Code) (left : ℕ) (old : InWork) (store : List Bool) (step : BandStep) (new : InWork) (rest : List Bool) : Type 0 where
  pub bits : List Bool
  pub split : store ≡ bits ++ rest
  pub some : 1 ≤ length bits
  pub stays : StaysOpen b step new
  pub outside : KeepsOtherValues old new
  pub comes : BandComesTo b ac left old bits step new
