use Rattle.std.specs.Prelude.{◌≡◌, ◌<◌, ℕ, length}
use Rattle.jpg_coefs.specs.PackedCells.{at, high_of}
use Rattle.jpg_coefs.proofs.packed.high_bytes.Given as goal

abbrev pub invariant-loop-k : goal.invariant-loop-k
invariant-loop-k l = (length l.high ≡ 64) × ((k : ℕ) → k < l.k → at l.high k ≡ high_of (at l.block k))
