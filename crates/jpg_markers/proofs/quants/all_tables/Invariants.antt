use Rattle.std.specs.Prelude.{◌≡◌, length}
use Rattle.jpg_spec.specs.QuantContents.{parsed_quants}
use Rattle.jpg_markers.proofs.quants.all_tables.Given as goal

abbrev pub invariant-loop-rest : goal.invariant-loop-rest
invariant-loop-rest l = parsed_quants l.set l.rest ≡ parsed_quants l.quants l.contents

abbrev pub decreases-loop-rest : goal.decreases-loop-rest
decreases-loop-rest l = length l.rest
