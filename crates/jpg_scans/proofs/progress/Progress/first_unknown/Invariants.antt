use Rattle.std.specs.Prelude.{◌≡◌}
use Rattle.jpg_scans.specs.Progress.{unknown_from}
use Rattle.jpg_scans.proofs.progress.Progress.first_unknown.Given as goal

abbrev pub invariant-loop-i : goal.invariant-loop-i
invariant-loop-i l = unknown_from l.self l.self.count 0 ≡ unknown_from l.self l.self.count l.i
