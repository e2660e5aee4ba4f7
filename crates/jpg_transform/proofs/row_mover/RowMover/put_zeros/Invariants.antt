use Rattle.std.specs.Prelude.{◌≡◌, ℕ}
use Rattle.jpg_spec.specs.Scan.{Blocks}
use Rattle.jpg_transform.specs.RowsMoved.{CanMoveZeros, MovedScan}
use Rattle.jpg_transform.proofs.row_mover.RowMover.put_zeros.Given as goal

-- Whatever was moved before, some zero rows were moved since.
abbrev pub invariant-loop-self : goal.invariant-loop-self
invariant-loop-self l = (w : MovedScan) (k : ℕ) (blocks : Blocks) → CanMoveZeros w k blocks l.initial.self → (n : ℕ) × CanMoveZeros w n blocks l.self

abbrev pub decreases-loop-self : goal.decreases-loop-self
decreases-loop-self l = ((l.self.scan).units).left
