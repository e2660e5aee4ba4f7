use Rattle.std.specs.Prelude.{◌≡◌, ◌<◌, ℕ, length}
use Rattle.jpg_coefs.specs.PackedCells.{at, whole_of}
use Rattle.jpg_coefs.proofs.packed.whole_block.Given as goal

abbrev pub invariant-loop-k : goal.invariant-loop-k
invariant-loop-k l = (length l.values ≡ 64) × ((k : ℕ) → k < l.k → at l.values k ≡ whole_of (at l.high k) (at l.low k))
