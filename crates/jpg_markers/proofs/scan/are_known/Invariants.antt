use Rattle.std.specs.Prelude.{◌≡◌, length}
use Rattle.jpg_spec.specs.ScanContents.{are_among, parsed_ids}
use Rattle.jpg_markers.proofs.scan.are_known.Given as goal

abbrev pub invariant-loop-rest : goal.invariant-loop-rest
invariant-loop-rest l = are_among l.frame (parsed_ids l.parts) ≡ are_among l.frame (parsed_ids l.rest)

abbrev pub decreases-loop-rest : goal.decreases-loop-rest
decreases-loop-rest l = length l.rest
