use Rattle.std.specs.Prelude.{◌≡◌, ℕ, ◌<◌, length, slice_index}
use Rattle.jpg_spec_image.specs.Dct.{number_at}
use Rattle.jpg_dct.specs.Multipliers.{Multiplies}
use Rattle.jpg_dct.proofs.inverse.multipliers.Multipliers.new.Given as goal

abbrev pub invariant-loop-n : goal.invariant-loop-n
invariant-loop-n l =
    (length l.factors ≡ 64) × (length l.limits ≡ 64)
    × ((k : ℕ) → k < l.n → Multiplies (slice_index l.quants k) (number_at l.factors k) (slice_index l.limits k))
