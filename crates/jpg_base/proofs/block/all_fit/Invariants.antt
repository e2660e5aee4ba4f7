use Rattle.std.proofs.Common.{ℕ, ◌<◌, ◌≤ℤ◌, pos, negsuc}
use Rattle.std.specs.Prelude.{slice_index_or}
use Rattle.jpg_base.proofs.block.all_fit.Given as goal

abbrev pub invariant-loop-k : goal.invariant-loop-k
invariant-loop-k l = (j : ℕ) → j < l.k → (negsuc 32767 ≤ℤ slice_index_or l.values j (pos 0)) × (slice_index_or l.values j (pos 0) ≤ℤ pos 32767)
