use Rattle.std.specs.Prelude.{◌≡◌, ◌≤◌, ◌++◌, [], drop, length, reverse}
use Rattle.jpg_spec_write.specs.FileText.{distinct_after}
use Rattle.jpg_markers.proofs.writing.quants.distinct_tables.Given as goal

abbrev pub invariant-loop-table : goal.invariant-loop-table
invariant-loop-table l =
    (l.distinct.items ++ distinct_after (reverse l.distinct.items) (drop l.table-index l.tables) ≡ distinct_after [] l.tables) × (length l.distinct.items ≤ l.table-index)
