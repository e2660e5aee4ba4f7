use Rattle.std.proofs.Common.{◌≡◌, ◌+◌, ◌∷◌, length, take}
use Rattle.jpg_huff.specs.Tables.{table_of}
use Rattle.jpg_file.proofs.write.tables.counted.Given as goal

abbrev pub invariant-loop-i : goal.invariant-loop-i
invariant-loop-i l = (l.contents.items ≡ l.place ∷ take l.i (table_of l.table).counts) × (length l.contents.items ≡ l.i + 1)
