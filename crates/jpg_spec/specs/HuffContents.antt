-- What the contents of a segment of Huffman tables mean, table by table, or their first fault (T.81, B.2.4.2, Figure
-- B.7).
use Rattle.std.specs.Prelude.{ℕ, zero, suc, ◌+◌, ◌/◌, ◌%◌, nat_lt, not, ◌||◌, ◌==◌, if◌then◌else◌, List, [], ◌∷◌, length, sum, take, drop, slice_get, slice_set, Option, Some, Ok, Err}
use Rattle.jpg_spec.specs.Lists.{slot_value}
use Rattle.jpg_spec.specs.Codes.{are_codes}
use Rattle.jpg_spec.specs.Faults.{Parsed, refuse}
use Rattle.jpg_spec.specs.Segments.{HuffmanTable}
use Rattle.jpg_spec.specs.QuantContents.{◌>>=◌}
use Rattle.jpg_spec.specs.declared.fault.Fault.TheVariants.{BadLength, BadHuffman}

-- a table with its class, 0 for DC and 1 for AC, and its slot
pub record HuffmanDefinition : Type 0 where
  pub class : ℕ
  pub slot : ℕ
  pub table : HuffmanTable

-- After the byte of class and slot follow 16 counts, of codes of 1 to 16 bits, and then the symbols.
abbrev pub counts_of : List ℕ → List ℕ
counts_of bytes = take 16 bytes

abbrev pub symbols_size : List ℕ → ℕ
symbols_size bytes = sum (counts_of bytes)

abbrev pub definition_size : List ℕ → ℕ
definition_size bytes = 16 + symbols_size bytes

abbrev pub parsed_definition : ℕ → List ℕ → HuffmanDefinition
parsed_definition tc bytes =
    record { class = tc / 16; slot = tc % 16; table = record { counts = counts_of bytes; symbols = take (symbols_size bytes) (drop 16 bytes) } }

-- At most 256 codes, each of which fits its length and none of which is all ones (C.2).
unfoldable pub huffman_table_of : ℕ → List ℕ → Parsed HuffmanDefinition
huffman_table_of tc bytes =
    refuse BadHuffman (nat_lt 1 (tc / 16) || nat_lt 3 (tc % 16))
    (refuse BadLength (nat_lt (length bytes) 16)
    (refuse BadHuffman (nat_lt 256 (symbols_size bytes))
    (refuse BadLength (nat_lt (length bytes) (definition_size bytes))
    (refuse BadHuffman (not (are_codes 1 0 (counts_of bytes)))
    (Ok (parsed_definition tc bytes))))))

-- The tables of this many bytes or fewer. (The number only bounds the recursion.)
unfoldable pub huffman_tables_of : ℕ → List ℕ → Parsed (List HuffmanDefinition)
huffman_tables_of zero [] = Ok []
huffman_tables_of zero (tc ∷ bytes) = Err BadLength
huffman_tables_of (suc most) [] = Ok []
huffman_tables_of (suc most) (tc ∷ bytes) =
    huffman_table_of tc bytes >>= λ first.
    huffman_tables_of most (drop (definition_size bytes) bytes) >>= λ others.
    Ok (first ∷ others)

abbrev pub huffman_tables : List ℕ → Parsed (List HuffmanDefinition)
huffman_tables contents = huffman_tables_of (length contents) contents

-- The slots of both classes, and their tables after a segment: a later table of a slot replaces an earlier one.
pub record HuffmanSlots : Type 0 where
  pub dc : List (Option HuffmanTable)
  pub ac : List (Option HuffmanTable)

-- the table in a slot, if any
abbrev pub huffman_in : List (Option HuffmanTable) → ℕ → Option HuffmanTable
huffman_in slots slot = slot_value (slice_get slots slot)

-- after one table
abbrev pub put_definition : HuffmanSlots → HuffmanDefinition → HuffmanSlots
put_definition slots d =
    if d.class == 0 then record slots { dc = slice_set slots.dc d.slot (Some d.table) } else record slots { ac = slice_set slots.ac d.slot (Some d.table) }

abbrev pub put_definitions : HuffmanSlots → List HuffmanDefinition → HuffmanSlots
put_definitions slots [] = slots
put_definitions slots (d ∷ ds) = put_definitions (put_definition slots d) ds

abbrev pub parsed_huffmans : HuffmanSlots → List ℕ → Parsed HuffmanSlots
parsed_huffmans slots contents = huffman_tables contents >>= λ ds. Ok (put_definitions slots ds)
