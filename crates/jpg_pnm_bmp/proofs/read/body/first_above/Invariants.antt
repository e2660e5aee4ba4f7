use Rattle.std.proofs.Common.{◌<◌, ℕ, get_or}
use Rattle.jpg_pnm_bmp.proofs.read.body.first_above.Given as goal

abbrev pub invariant-loop-k : goal.invariant-loop-k
invariant-loop-k l = (j : ℕ) → j < l.k → get_or l.bytes j 0 < l.limit
