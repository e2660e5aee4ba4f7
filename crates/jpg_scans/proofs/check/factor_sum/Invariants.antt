use Rattle.std.specs.Prelude.{◌≡◌, ◌≤◌, ◌*◌, ◌+◌, true, nat_lt, length, drop}
use Rattle.jpg_spec.specs.Lists.{all_of}
use Rattle.jpg_spec.specs.Geometry.{factor_sum}
use Rattle.jpg_scans.proofs.check.factor_sum.Given as goal

abbrev pub invariant-loop-i : goal.invariant-loop-i
invariant-loop-i l =
    (factor_sum l.frame l.components ≡ l.sum + factor_sum l.frame (drop l.i-index l.components))
    × (l.sum ≤ 16 * l.i-index)
    × (all_of (λ i. nat_lt i (length l.frame.components)) (drop l.i-index l.components) ≡ true)
