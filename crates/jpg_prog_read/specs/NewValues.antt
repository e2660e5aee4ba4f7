-- Values of a first pass whose bits are all there (T.81, G.1.2.2).
use Rattle.std.specs.Prelude.{◌≡◌, ℕ, ◌+◌, ◌*◌, ◌<◌, ◌≤◌, Bool, List, [], ◌∷◌, ◌++◌, length, take, drop, ℤ, pos, ◌*ℤ◌}
use Rattle.jpg_spec.specs.Codes.{Code}
use Rattle.jpg_spec.specs.Elements.{zeros}
use Rattle.jpg_spec.specs.Numbers.{category, extra_bits}
use Rattle.jpg_huff.specs.Look.{Spots}
use Rattle.jpg_huff.specs.declared.look.Spotted.TheVariants.{Symbol}
use Rattle.jpg_prog_read.specs.InWork.{InWork}
use Rattle.jpg_prog_read.specs.Scaled.{IsScaled}
use Rattle.jpg_prog_read.specs.declared.band.new_value.NewValue.{NewValue}
use Rattle.jpg_prog_read.specs.declared.numbers.Scaled.TheVariants.{Within}
use Rattle.jpg_prog_read.specs.declared.scan.BandScan.{BandScan}

-- The bits begin with the code of a run of zeros and a category, of which the run is shorter than the zeros that are
-- left, and with the extra bits of a number; the value is that number times the scale, within its limit.
pub record BeginsValue (b : BandScan) (ac : List Code) (left : ℕ) (store : List Bool) (v : NewValue) : Type 0 where
  pub code : ℕ
  pub size : ℕ
  pub number : ℤ
  pub spots : Spots ac store (Symbol code (16 * v.run + size))
  pub some : 1 ≤ size
  pub most : size ≤ b.most_category
  pub short : v.run ≤ 15
  pub room : v.run < left
  pub long : v.length ≡ code + size
  pub fits : v.length ≤ length store
  pub category_is : category number ≡ size
  pub extra_is : extra_bits number ≡ take size (drop code store)
  pub scaled : IsScaled b.most_magnitude (number *ℤ pos b.scale) (Within v.value)

-- the state after a value that follows these zeros
abbrev pub with_new_value : InWork → ℕ → ℤ → InWork
with_new_value s run value = record s { done = s.done ++ (zeros run ++ value ∷ []); rest = drop (run + 1) s.rest }
