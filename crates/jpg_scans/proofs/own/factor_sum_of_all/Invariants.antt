use Rattle.std.specs.Prelude.{◌≡◌, ◌≤◌, ◌*◌}
use Rattle.jpg_spec.specs.Geometry.{factor_sum}
use Rattle.jpg_spec.specs.Lists.{below}
use Rattle.jpg_scans.proofs.own.factor_sum_of_all.Given as goal

abbrev pub invariant-loop-i : goal.invariant-loop-i
invariant-loop-i l = (l.sum ≡ factor_sum l.frame (below l.i)) × (l.sum ≤ 16 * l.i)
