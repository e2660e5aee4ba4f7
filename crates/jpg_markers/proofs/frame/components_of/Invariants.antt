use Rattle.std.specs.Prelude.{◌≡◌, ◌+◌, ◌*◌, ◌≤◌, ◌++◌, length}
use Rattle.jpg_spec.specs.FrameContents.{parsed_components}
use Rattle.jpg_markers.proofs.frame.components_of.Given as goal

abbrev pub invariant-loop-rest : goal.invariant-loop-rest
invariant-loop-rest l = (l.components.items ++ parsed_components l.rest ≡ parsed_components l.parts) × (3 * length l.components.items + length l.rest ≤ 765)

abbrev pub decreases-loop-rest : goal.decreases-loop-rest
decreases-loop-rest l = length l.rest
