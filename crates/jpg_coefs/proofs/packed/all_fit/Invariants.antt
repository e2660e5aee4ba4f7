use Rattle.std.proofs.Common.{ℕ, ◌<◌, ◌≤ℤ◌, pos, negsuc}
use Rattle.jpg_coefs.specs.PackedCells.{at}
use Rattle.jpg_coefs.proofs.packed.all_fit.Given as goal

abbrev pub invariant-loop-k : goal.invariant-loop-k
invariant-loop-k l = (j : ℕ) → j < l.k → (negsuc 32767 ≤ℤ at l.block j) × (at l.block j ≤ℤ pos 32767)
