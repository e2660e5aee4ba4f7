-- A number times 2 ^ al, within a limit or beyond it.
use Rattle.std.specs.Prelude.{◌≡◌, ℕ, ◌<◌, ◌≤◌, ℤ, nat_abs}
use Rattle.jpg_prog_read.specs.declared.numbers.Scaled.{Scaled}
use Rattle.jpg_prog_read.specs.declared.numbers.Scaled.TheVariants.{Within, Beyond}

abbrev pub IsScaled : ℕ → ℤ → Scaled → Type 0
IsScaled limit x (Within v) = (v ≡ x) × (nat_abs x ≤ limit)
IsScaled limit x Beyond = limit < nat_abs x
