use Rattle.std.specs.Prelude.{◌≡◌, ℕ, ◌/◌, ◌%◌, ◌<◌, length}
use Rattle.jpg_spec_image.specs.Dct.{number_at, column_at}
use Rattle.jpg_dct.proofs.forward.fdct.Given as goal

abbrev pub invariant-loop-n : goal.invariant-loop-n
invariant-loop-n l = (length l.out ≡ 64) × ((k : ℕ) → k < l.n → number_at l.out k ≡ column_at l.rows (k % 8) (k / 8))
