-- The bits of a store that a machine took so far in one call.
use Rattle.std.specs.Prelude.{◌≡◌, ℕ, ◌+◌, ◌<◌, ◌≤◌, Bool, List, ◌++◌, Result, Ok, Err}
use Rattle.jpg_coefs.specs.Picture.{Picture}
use Rattle.jpg_coefs.specs.Machine.{Interval, Kind, Chain}
use Rattle.jpg_coefs.specs.declared.machine.UnitFault.{UnitFault}
use Rattle.jpg_coefs.specs.declared.machine.UnitStep.{UnitStep}
use Rattle.jpg_coefs.specs.declared.machine.UnitStep.TheVariants.{More, IntervalDone}

-- They are a chain, by which fewer than `most` units are complete.
pub record TookSome {M : Type 0} (k : Kind M) (most : ℕ) (m : M) (now : Picture) (store : List Bool) (new : M) (after : Picture) (rest : List Bool) : Type 0 where
  pub taken : List Bool
  pub split : store ≡ taken ++ rest
  pub chain : Chain k m now taken new after
  pub few : k.left m < k.left new + most
  pub interval : Interval
  pub bits : List Bool
  pub standing : k.stands new interval bits after

-- Bits from the start of a store are a chain, by which no unit is complete.
pub record HurriesOn {M : Type 0} (k : Kind M) (m : M) (now : Picture) (store : List Bool) (new : M) (rest : List Bool) : Type 0 where
  pub taken : List Bool
  pub split : store ≡ taken ++ rest
  pub chain : Chain k m now taken new now
  pub left : k.left new ≡ k.left m

-- if the interval goes on some of its units are left
abbrev pub KeepsSome : Result UnitStep UnitFault → ℕ → Type 0
KeepsSome (Ok More) units = 1 ≤ units
KeepsSome (Ok IntervalDone) units = Unit {0}
KeepsSome (Err f) units = Unit {0}
