use Rattle.std.specs.Prelude.{◌≡◌, ◌<◌, ◌≤◌, ℕ, true}
use Rattle.jpg_coefs.specs.PackedCells.{IsByte, at}
use Rattle.jpg_coefs.proofs.packed.are_short.Given as goal

abbrev pub invariant-loop-k : goal.invariant-loop-k
invariant-loop-k l = l.short ≡ true → (k : ℕ) → 1 ≤ k → k < l.k → IsByte (at l.block k)
