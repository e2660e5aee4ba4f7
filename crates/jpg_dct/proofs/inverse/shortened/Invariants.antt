use Rattle.std.specs.Prelude.{◌≡◌, ℕ, ◌<◌, length}
use Rattle.jpg_spec_image.specs.Dct.{number_at}
use Rattle.jpg_dct.proofs.inverse.shortened.Given as goal

abbrev pub invariant-loop-n : goal.invariant-loop-n
invariant-loop-n l = (length l.short ≡ 64) × ((k : ℕ) → k < l.n → number_at l.short k ≡ number_at l.values k)
