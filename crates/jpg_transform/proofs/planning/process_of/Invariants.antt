use Rattle.std.proofs.Common.{◌≡◌, drop}
use Rattle.jpg_transform.specs.Planned.{process_of}
use Rattle.jpg_transform.proofs.planning.process_of.Given as goal

abbrev pub invariant-loop-table : goal.invariant-loop-table
invariant-loop-table l = process_of 8 (drop l.table-index l.tables) ≡ process_of l.fn.precision l.fn.tables
