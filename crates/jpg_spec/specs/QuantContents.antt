-- What the contents of a segment of quantisation tables mean, table by table, or their first fault (T.81, B.2.4.1,
-- Figure B.6).
use Rattle.std.specs.Prelude.{ℕ, zero, suc, ◌/◌, ◌%◌, Bool, nat_lt, ◌||◌, ◌==◌, if◌then◌else◌, List, [], ◌∷◌, length, take, drop, slice_get, slice_set, Option, None, Some, Ok, Err}
use Rattle.jpg_spec.specs.Lists.{any_of, slot_value}
use Rattle.jpg_spec.specs.Faults.{Parsed, refuse}
use Rattle.jpg_spec.specs.Segments.{QuantTable, two_bytes}
use Rattle.jpg_spec.specs.declared.fault.Fault.TheVariants.{BadLength, BadQuant}

-- a value or fault from the value before it
infixl 10 ◌>>=◌
abbrev pub ◌>>=◌ : {X Y : Type 0} → Parsed X → (X → Parsed Y) → Parsed Y
(Ok x) >>= next = next x
(Err fault) >>= next = Err fault

abbrev pub parsed_pairs : List ℕ → List ℕ
parsed_pairs [] = []
parsed_pairs (high ∷ []) = []
parsed_pairs (high ∷ low ∷ bytes) = two_bytes high low ∷ parsed_pairs bytes

-- After the byte of precision and slot follow 64 quantisers in zigzag order, of one byte or of two.
abbrev pub table_size : ℕ → ℕ
table_size pt = if pt / 16 == 1 then 128 else 64

abbrev pub table_entries : ℕ → List ℕ → QuantTable
table_entries pt bytes = if pt / 16 == 1 then parsed_pairs (take 128 bytes) else take 64 bytes

abbrev pub is_zero_quant : ℕ → Bool
is_zero_quant q = q == 0

-- a slot and its table
unfoldable pub quant_table_of : ℕ → List ℕ → Parsed (ℕ × QuantTable)
quant_table_of pt bytes =
    refuse BadQuant (nat_lt 1 (pt / 16) || nat_lt 3 (pt % 16))
    (refuse BadLength (nat_lt (length bytes) (table_size pt))
    (refuse BadQuant (any_of is_zero_quant (table_entries pt bytes))
    (Ok (pt % 16, table_entries pt bytes))))

-- The tables of this many bytes or fewer. (The number only bounds the recursion.)
unfoldable pub quant_tables_of : ℕ → List ℕ → Parsed (List (ℕ × QuantTable))
quant_tables_of zero [] = Ok []
quant_tables_of zero (pt ∷ bytes) = Err BadLength
quant_tables_of (suc most) [] = Ok []
quant_tables_of (suc most) (pt ∷ bytes) =
    quant_table_of pt bytes >>= λ first.
    quant_tables_of most (drop (table_size pt) bytes) >>= λ others.
    Ok (first ∷ others)

abbrev pub quant_tables : List ℕ → Parsed (List (ℕ × QuantTable))
quant_tables contents = quant_tables_of (length contents) contents

-- The four slots, and their tables after a segment: a later table of a slot replaces an earlier one.
abbrev pub Slots : Type 0
Slots = List (Option QuantTable)

abbrev pub no_quants : Slots
no_quants = None ∷ None ∷ None ∷ None ∷ []

-- the table in a slot, if any
abbrev pub quant_in : Slots → ℕ → Option QuantTable
quant_in slots slot = slot_value (slice_get slots slot)

-- after one table
abbrev pub parsed_quant : Slots → ℕ → List ℕ → Parsed Slots
parsed_quant slots pt bytes = quant_table_of pt bytes >>= λ table. Ok (slice_set slots table.0 (Some table.1))

abbrev pub put_tables : Slots → List (ℕ × QuantTable) → Slots
put_tables slots [] = slots
put_tables slots (table ∷ tables) = put_tables (slice_set slots table.0 (Some table.1)) tables

abbrev pub parsed_quants : Slots → List ℕ → Parsed Slots
parsed_quants slots contents = quant_tables contents >>= λ tables. Ok (put_tables slots tables)
