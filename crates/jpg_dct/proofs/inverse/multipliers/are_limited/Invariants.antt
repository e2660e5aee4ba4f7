use Rattle.std.specs.Prelude.{◌≡◌, ℕ, ◌<◌, ◌≤◌, true, false, nat_abs, slice_index}
use Rattle.jpg_spec_image.specs.Dct.{number_at}
use Rattle.jpg_dct.specs.Multipliers.{AreLimited}
use Rattle.jpg_dct.proofs.inverse.multipliers.are_limited.Given as goal

abbrev pub invariant-loop-n : goal.invariant-loop-n
invariant-loop-n l =
    (l.large ≡ false → (k : ℕ) → k < l.n → nat_abs (number_at l.given k) ≤ slice_index l.limits k)
    × (l.large ≡ true → AreLimited l.given l.limits → ⊥)
