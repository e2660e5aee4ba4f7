use Rattle.std.specs.Prelude.{◌≡◌, ◌≤◌, ◌+◌, ◌*◌, drop, map}
use Rattle.jpg_spec.specs.Geometry.{factor_sum}
use Rattle.jpg_base.proofs.frame.Frame.factor_sum.Given as goal

abbrev pub invariant-loop-part : goal.invariant-loop-part
invariant-loop-part l = (l.sum + factor_sum l.self (map (λ p. p.component) (drop l.part-index l.parts)) ≡ factor_sum l.self (map (λ p. p.component) l.parts)) × (l.sum ≤ 16 * l.part-index)
