-- Extra bits, collected bit by bit.
use Rattle.std.specs.Prelude.{◌≡◌, ℕ, ◌<◌, ◌≤◌, ◌^◌, Bool, List, length}
use Rattle.jpg_prog_read.specs.declared.extra.Extra.{Extra}
use Rattle.jpg_prog_read.specs.declared.extra.Extra.TheVariants.{Wanting, Enough}

-- The category of the number, and its bits so far.
pub record ExtraWork : Type 0 where
  pub size : ℕ
  pub bits : List Bool

-- how they are stored
pub record IsExtraKept (size have number : ℕ) : Type 0 where
  pub small : size ≤ 15
  pub fewer : have ≤ size
  pub below : number < 2 ^ have

-- whether more are needed
abbrev pub IsWanting : Extra → ℕ → List Bool → Type 0
IsWanting Wanting size bits = length bits < size
IsWanting Enough size bits = length bits ≡ size
