use Rattle.std.proofs.Common.{◌≡◌, ◌+◌, ◌∷◌, ◌++◌, length, take}
use Rattle.jpg_huff.specs.Tables.{table_of}
use Rattle.jpg_file.proofs.write.tables.contents_of.Given as goal

abbrev pub invariant-loop-symbol : goal.invariant-loop-symbol
invariant-loop-symbol l =
    (l.contents.items ≡ l.place ∷ (table_of l.table).counts ++ take l.symbol-index (table_of l.table).symbols) × (length l.contents.items ≡ l.symbol-index + 17)
