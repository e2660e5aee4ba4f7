-- What the parts of a band's reader return.
use Rattle.std.specs.Prelude.{◌≡◌, ◌-◌, ◌<◌, ◌≤◌, Bool, true, false, List, [], ◌∷◌, length, drop, ℤ, pos}
use Rattle.jpg_spec.specs.Elements.{Coding, is_zero, are_in_bounds}
use Rattle.jpg_prog_read.specs.declared.stage.Stage.TheVariants.{Code}
use Rattle.jpg_prog_read.specs.declared.scan.BandScan.{BandScan}
use Rattle.jpg_prog_read.specs.declared.band.Ended.{Ended}
use Rattle.jpg_prog_read.specs.declared.band.Ended.TheVariants.{All, Some}
use Rattle.jpg_prog_read.specs.declared.band.Skipped.{Skipped}
use Rattle.jpg_prog_read.specs.declared.band.Skipped.TheVariants.{AtEnd, AtOld, AtZero}
use Rattle.jpg_prog_read.specs.declared.band.BandStep.{BandStep}
use Rattle.jpg_prog_read.specs.declared.band.BandStep.TheVariants.{More, Done, Fault}
use Rattle.jpg_prog_read.specs.InWork.{InWork, IsOpenBand, IsWholeUnit, AreRefinable}
use Rattle.jpg_prog_read.specs.Stands.{UnitPlace, RepresentsBandUnit}

-- numbers that fit the reader's types
pub record IsSaneBand (b : BandScan) : Type 0 where
  pub some : 1 ≤ b.start
  pub begun : b.start < b.end
  pub inside : b.end ≤ 64
  pub most : b.most_category ≤ 15
  pub magnitude : b.most_magnitude ≤ 32767

-- where skipping zeros ends
abbrev pub IsSkipped : Skipped → InWork → Type 0
IsSkipped AtEnd s = s.rest ≡ []
IsSkipped AtOld s = (1 ≤ length s.rest) × ((v : ℤ) × (s.rest ≡ v ∷ drop 1 s.rest) × (is_zero v ≡ false))
IsSkipped AtZero s = (s.rest ≡ pos 0 ∷ drop 1 s.rest) × (s.run ≡ 0)

-- after the end of a band: whether the run is over
abbrev pub AfterBandEnd : InWork → Ended → InWork → Type 0
AfterBandEnd old All new = (old.bands ≡ 1) × (new ≡ record old { bands = 0; stage = Code })
AfterBandEnd old Some new = (2 ≤ old.bands) × (new ≡ record old { bands = old.bands - 1 })

-- whether values are left
abbrev pub AfterValue : BandStep → InWork → Type 0
AfterValue More s = 1 ≤ length s.rest
AfterValue Done s = s.rest ≡ []
AfterValue (Fault f) s = ⊥

-- whether the unit goes on
abbrev pub StaysOpen : BandScan → BandStep → InWork → Type 0
StaysOpen b More s = IsOpenBand b s
StaysOpen b Done s = IsWholeUnit s
StaysOpen b (Fault f) s = Unit {0}

-- the values outside the band don't change
abbrev pub KeepsOtherValues : InWork → InWork → Type 0
KeepsOtherValues old new = (new.front ≡ old.front) × (new.behind ≡ old.behind)

-- a value of the band is within the bounds, and zero is too
abbrev pub IsWithinBand : Coding → ℤ → Type 0
IsWithinBand c v = are_in_bounds c.bounds false (v ∷ []) ≡ true

abbrev pub HasZero : Coding → Type 0
HasZero c = IsWithinBand c (pos 0)

-- zeros were skipped
pub record HasSkipped (old new : InWork) : Type 0 where
  pub stage : new.stage ≡ old.stage
  pub bands : new.bands ≡ old.bands
  pub front : new.front ≡ old.front
  pub behind : new.behind ≡ old.behind
  pub fits : (b : BandScan) → AreRefinable b old.rest → AreRefinable b new.rest

-- zeros were skipped, and the unit is that of the same bits
abbrev pub PassesZeros : InWork → InWork → Type 0
PassesZeros old new = (at : UnitPlace) (bits : List Bool) → HasZero at.coding → RepresentsBandUnit at bits old → RepresentsBandUnit at bits new
