use Rattle.std.specs.Prelude.{◌≡◌}
use Rattle.jpg_scans.specs.Sent.{are_due}
use Rattle.jpg_scans.proofs.sent.Sent.has_due.Given as goal

abbrev pub invariant-loop-k : goal.invariant-loop-k
invariant-loop-k l = l.all ≡ are_due l.self l.head l.k
