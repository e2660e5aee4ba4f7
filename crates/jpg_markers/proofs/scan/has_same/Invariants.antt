use Rattle.std.specs.Prelude.{◌≡◌, length}
use Rattle.jpg_spec.specs.Lists.{is_distinct}
use Rattle.jpg_spec.specs.ScanContents.{parsed_ids}
use Rattle.jpg_markers.proofs.scan.has_same.Given as goal

abbrev pub invariant-loop-rest : goal.invariant-loop-rest
invariant-loop-rest l = is_distinct (parsed_ids l.parts) ≡ is_distinct (parsed_ids l.rest)

abbrev pub decreases-loop-rest : goal.decreases-loop-rest
decreases-loop-rest l = length l.rest
