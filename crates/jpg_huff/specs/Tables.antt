-- What contracts see of a table.
use Rattle.std.specs.Prelude.{List, take}
use Rattle.jpg_spec.specs.Codes.{Code}
use Rattle.jpg_spec.specs.Segments.{HuffmanTable, table_codes}
use Rattle.jpg_huff.specs.declared.table.Table.{Table}

-- its counts by length from 1 to 16, and its symbols, as many as the counts say
abbrev pub table_of : Table → HuffmanTable
table_of t = record { counts = t.counts; symbols = take t.total t.symbols }

-- its codes
abbrev pub symbol_codes : Table → List Code
symbol_codes t = table_codes (table_of t)
