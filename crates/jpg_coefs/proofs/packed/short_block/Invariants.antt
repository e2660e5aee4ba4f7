use Rattle.std.specs.Prelude.{◌≡◌, ◌<◌, ℕ, length}
use Rattle.jpg_coefs.specs.PackedCells.{at}
use Rattle.jpg_coefs.proofs.packed.short_block.Given as goal

abbrev pub invariant-loop-k : goal.invariant-loop-k
invariant-loop-k l = (length l.values ≡ 64) × ((k : ℕ) → k < l.k → at l.values k ≡ at l.cell.low k)
