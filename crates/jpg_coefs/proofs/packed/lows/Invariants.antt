use Rattle.std.specs.Prelude.{◌≡◌, ◌<◌, ℕ, length}
use Rattle.jpg_coefs.specs.PackedCells.{at, low_of}
use Rattle.jpg_coefs.proofs.packed.lows.Given as goal

abbrev pub invariant-loop-k : goal.invariant-loop-k
invariant-loop-k l = (length l.low ≡ 64) × ((k : ℕ) → k < l.k → at l.low k ≡ low_of (at l.block k))
