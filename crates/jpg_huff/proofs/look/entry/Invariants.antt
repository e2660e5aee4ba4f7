use Rattle.jpg_huff.proofs.LookedUp.{NoneUpTo}
use Rattle.jpg_huff.proofs.look.entry.Given as goal

abbrev pub invariant-loop-at : goal.invariant-loop-at
invariant-loop-at l = NoneUpTo l.table l.byte l.at
