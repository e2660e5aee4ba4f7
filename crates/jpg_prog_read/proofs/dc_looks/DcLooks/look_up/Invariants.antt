use Rattle.jpg_prog_read.proofs.DcLookedUp.{AreOf}
use Rattle.jpg_prog_read.proofs.dc_looks.DcLooks.look_up.Given as goal

abbrev pub invariant-loop-slot : goal.invariant-loop-slot
invariant-loop-slot l = AreOf l.tables l.self.each
