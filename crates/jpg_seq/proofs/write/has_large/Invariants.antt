use Rattle.std.proofs.Common.{◌≤◌}
use Rattle.jpg_seq.proofs.write.has_large.Given as goal

abbrev pub invariant-loop-k : goal.invariant-loop-k
invariant-loop-k l = l.count ≤ l.k
