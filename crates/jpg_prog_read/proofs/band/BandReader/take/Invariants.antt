use Rattle.std.proofs.Common.{length}
use Rattle.jpg_prog_read.proofs.BandBits.{HasGone}
use Rattle.jpg_prog_read.proofs.band.BandReader.take.Given as goal

abbrev pub invariant-loop-store : goal.invariant-loop-store
invariant-loop-store l = HasGone l.scan l.codes l.left l.fn.self l.fn.store l.self l.store

abbrev pub decreases-loop-store : goal.decreases-loop-store
decreases-loop-store l = length l.store
