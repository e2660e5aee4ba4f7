use Rattle.std.specs.Prelude.{◌≡◌, length}
use Rattle.jpg_spec.specs.Lists.{below}
use Rattle.jpg_scans.proofs.own.push_together.Given as goal

abbrev pub invariant-loop-i : goal.invariant-loop-i
invariant-loop-i l = (l.components.items ≡ below l.i) × (length l.components.items ≡ l.i)
