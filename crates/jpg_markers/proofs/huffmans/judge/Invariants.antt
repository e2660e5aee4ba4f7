use Rattle.std.specs.Prelude.{◌≡◌, length}
use Rattle.jpg_markers.specs.Huffmans.{tables_judged}
use Rattle.jpg_markers.proofs.huffmans.judge.Given as goal

abbrev pub invariant-loop-rest : goal.invariant-loop-rest
invariant-loop-rest l = tables_judged l.rest ≡ tables_judged l.contents

abbrev pub decreases-loop-rest : goal.decreases-loop-rest
decreases-loop-rest l = length l.rest
