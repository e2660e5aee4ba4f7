use Rattle.std.specs.Prelude.{◌≡◌, ◌+◌, ◌*◌, ◌≤◌, drop, map}
use Rattle.jpg_spec.specs.Geometry.{factor_sum}
use Rattle.jpg_markers.proofs.scan.blocks_of.Given as goal

abbrev pub invariant-loop-part : goal.invariant-loop-part
invariant-loop-part l = (l.blocks + factor_sum l.frame (map (λ p. p.component) (drop l.part-index l.parts)) ≡ factor_sum l.frame (map (λ p. p.component) l.parts)) × (l.blocks ≤ 16 * l.part-index)
