use Rattle.std.proofs.Common.{refl}
use Rattle.jpg_huff.specs.Counts.{no_rows}
use Rattle.jpg_huff.proofs.Marks.{rows_none}
use Rattle.jpg_huff.proofs.counts.SymbolCounts.none.Goals as goal

pub returns-clause-value : goal.returns-clause-value
unfolding no_rows
returns-clause-value c = refl

pub returns-clause-counts : goal.returns-clause-counts
unfolding no_rows
returns-clause-counts c = record { dc = rows_none; ac = rows_none }
