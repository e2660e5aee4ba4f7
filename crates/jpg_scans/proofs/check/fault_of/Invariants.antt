use Rattle.std.specs.Prelude.{◌≡◌}
use Rattle.jpg_scans.proofs.Checks.{HasTaken}
use Rattle.jpg_scans.proofs.check.fault_of.Given as goal

abbrev pub invariant-loop-entry : goal.invariant-loop-entry
invariant-loop-entry l = (l.number ≡ l.entry-index) × HasTaken l.is_progressive l.frame l.entries l.entry-index l.history
