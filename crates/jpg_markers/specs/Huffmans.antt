-- What the contents of a segment of Huffman tables mean, for tables as a reader finds them (T.81, B.2.4.2).
use Rattle.std.specs.Prelude.{ℕ, ◌/◌, ◌%◌, List, Result, Ok, Err}
use Rattle.jpg_spec.specs.Faults.{Parsed}
use Rattle.jpg_spec.specs.QuantContents.{◌>>=◌}
use Rattle.jpg_spec.specs.HuffContents.{HuffmanDefinition, huffman_tables}
use Rattle.jpg_spec.specs.declared.fault.Fault.{Fault}
use Rattle.jpg_huff.specs.New.{table_from}
use Rattle.jpg_markers.specs.declared.huffmans.Definition.{Definition}

-- a table after the byte of its class and slot
abbrev pub definition_in : ℕ → Definition → HuffmanDefinition
definition_in tc d = record { class = tc / 16; slot = tc % 16; table = table_from d.counts.now d.symbols.now }

abbrev pub parsed_table : ℕ → Result Definition Fault → Parsed HuffmanDefinition
parsed_table tc (Ok d) = Ok (definition_in tc d)
parsed_table tc (Err fault) = Err fault

-- nothing, or the first fault
abbrev pub tables_judged : List ℕ → Parsed (Unit {0})
tables_judged contents = huffman_tables contents >>= λ ds. Ok tt
