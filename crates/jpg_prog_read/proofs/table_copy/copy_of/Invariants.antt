use Rattle.std.proofs.Common.{◌≡◌, ℕ, ◌<◌, length, get_or}
use Rattle.jpg_huff.specs.Tables.{table_of}
use Rattle.jpg_prog_read.proofs.table_copy.copy_of.Given as goal

abbrev pub invariant-loop-i : goal.invariant-loop-i
invariant-loop-i l = (length l.counts ≡ 16) × ((k : ℕ) → k < l.i → get_or l.counts k 0 ≡ get_or (table_of l.table).counts k 0)
