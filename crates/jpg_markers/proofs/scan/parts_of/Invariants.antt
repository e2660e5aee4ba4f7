use Rattle.std.specs.Prelude.{◌≡◌, ◌+◌, ◌*◌, ◌≤◌, ◌++◌, length}
use Rattle.jpg_spec.specs.ScanContents.{parsed_parts}
use Rattle.jpg_markers.proofs.scan.parts_of.Given as goal

abbrev pub invariant-loop-rest : goal.invariant-loop-rest
invariant-loop-rest l = (l.list.items ++ parsed_parts l.frame l.rest ≡ parsed_parts l.frame l.parts) × (2 * length l.list.items + length l.rest ≤ 8)

abbrev pub decreases-loop-rest : goal.decreases-loop-rest
decreases-loop-rest l = length l.rest
