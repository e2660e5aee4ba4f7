use Rattle.std.proofs.Common.{◌≡◌, length, take}
use Rattle.jpg_scans.proofs.script.Script.copy.Given as goal

abbrev pub invariant-loop-entry : goal.invariant-loop-entry
invariant-loop-entry l = (l.entries.items ≡ take l.entry-index l.entry-items) × (length l.entries.items ≡ l.entry-index)
