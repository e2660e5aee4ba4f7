use Rattle.std.specs.Prelude.{length}
use Rattle.jpg_prog_read.specs.BitsTaken.{TookSome}
use Rattle.jpg_prog_read.proofs.dc_bits.take_bits.Given as goal

abbrev pub invariant-loop-machine : goal.invariant-loop-machine
invariant-loop-machine g l = TookSome (g.M.BitMachine.kind) l.most l.fn.machine l.fn.coefs l.fn.store l.machine l.coefs l.store

abbrev pub decreases-loop-machine : goal.decreases-loop-machine
decreases-loop-machine g l = length l.store
