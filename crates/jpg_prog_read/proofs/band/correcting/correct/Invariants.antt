use Rattle.std.proofs.Common.{length}
use Rattle.jpg_prog_read.specs.Corrected.{Corrects}
use Rattle.jpg_prog_read.proofs.band.correcting.correct.Given as goal

abbrev pub invariant-loop-here : goal.invariant-loop-here
invariant-loop-here l = Corrects l.scan l.end l.fn.from l.fn.values l.fn.store l.here l.values l.store

abbrev pub decreases-loop-here : goal.decreases-loop-here
decreases-loop-here l = length l.store
