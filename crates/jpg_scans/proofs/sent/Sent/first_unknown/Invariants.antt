use Rattle.std.specs.Prelude.{◌≡◌}
use Rattle.jpg_scans.specs.Sent.{first_unknown}
use Rattle.jpg_scans.proofs.sent.Sent.first_unknown.Given as goal

abbrev pub invariant-loop-k : goal.invariant-loop-k
invariant-loop-k l = first_unknown l.self 0 ≡ first_unknown l.self l.k
