use Rattle.std.proofs.Common.{◌≡◌, ◌<◌, ℕ, All, length}
use Rattle.jpg_spec.specs.InForce.{first_some}
use Rattle.jpg_spec.specs.QuantContents.{quant_in}
use Rattle.jpg_file.specs.Read.SegmentState.{quant_named}
use Rattle.jpg_file.proofs.read.scan_history.keep_quants.Given as goal

abbrev pub invariant-loop-rest : goal.invariant-loop-rest
invariant-loop-rest l =
    ((i : ℕ) → first_some (quant_in l.kept i) (quant_named l.frame l.quants l.rest i) ≡ first_some (quant_in l.fn.kept i) (quant_named l.frame l.quants l.parts i))
    × All (λ p. p.component < length l.frame.components) l.rest

abbrev pub decreases-loop-rest : goal.decreases-loop-rest
decreases-loop-rest l = length l.rest
