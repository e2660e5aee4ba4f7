-- The table of counts and values, and what it has in addition to them.
use Rattle.std.specs.Prelude.{◌≡◌, ℕ, zero, suc, ◌+◌, ◌*◌, ◌/◌, ◌%◌, ◌^◌, ◌<◌, ◌≤◌, Bool, true, false, List, length, sum, take, drop, slice_index, Option, None, Some, Result, Ok, Err}
use Rattle.jpg_spec.specs.Codes.{Code, are_codes, first_code}
use Rattle.jpg_spec.specs.Segments.{HuffmanTable}
use Rattle.jpg_huff.specs.Index.{limit_from, entry_code}
use Rattle.jpg_huff.specs.Tables.{table_of}
use Rattle.jpg_huff.specs.declared.table.Table.{Table}
use Rattle.jpg_huff.specs.declared.new.TableFault.{TableFault}
use Rattle.jpg_huff.specs.declared.new.TableFault.TheVariants.{TooManyCodes, ShortValues, OverfullCodes}

-- the counts, and as many of the values
abbrev pub table_from : List ℕ → List ℕ → HuffmanTable
table_from bits values = record { counts = bits; symbols = take (sum bits) values }

-- counts and values of a table: at least as many values as codes, each of which fits its length and none of which is all ones
pub record AreRight (bits values : List ℕ) : Type 0 where
  pub most : sum bits ≤ 256
  pub many : sum bits ≤ length values
  pub fit : are_codes 1 0 bits ≡ true

-- a table of them, where they are right
pub record IsTableOf (bits values : List ℕ) (t : Table) : Type 0 where
  pub table : table_of t ≡ table_from bits values
  pub right : AreRight bits values

-- how many codes there are, where they are right
pub record IsTotalOf (bits values : List ℕ) (total : ℕ) : Type 0 where
  pub is : total ≡ sum bits
  pub right : AreRight bits values

-- what is wrong, and nothing that is checked before it
abbrev pub IsFault : List ℕ → List ℕ → TableFault → Type 0
IsFault bits values TooManyCodes = 256 < sum bits
IsFault bits values ShortValues = (sum bits ≤ 256) × (length values < sum bits)
IsFault bits values OverfullCodes = (sum bits ≤ 256) × (sum bits ≤ length values) × (are_codes 1 0 bits ≡ false)

abbrev pub IsNewTable : List ℕ → List ℕ → Result Table TableFault → Type 0
IsNewTable bits values (Ok t) = IsTableOf bits values t
IsNewTable bits values (Err fault) = IsFault bits values fault

abbrev pub IsTotal : List ℕ → List ℕ → Result ℕ TableFault → Type 0
IsTotal bits values (Ok total) = IsTotalOf bits values total
IsTotal bits values (Err fault) = IsFault bits values fault

-- the first number of a length, which is one more than this
unfoldable pub first_number : List ℕ → ℕ → ℕ
first_number counts zero = 0
first_number counts (suc i) = 2 * (first_number counts i + slice_index counts i)

pub record AreFirsts (counts firsts : List ℕ) : Type 0 where
  pub each : (i : ℕ) → i < 16 → slice_index firsts i ≡ first_number counts i
  pub fits : (i : ℕ) → i < 16 → first_number counts i + slice_index counts i < 2 ^ (i + 1)

abbrev pub AreStarts : List ℕ → List ℕ → Type 0
AreStarts counts starts = (i : ℕ) → i < 16 → slice_index starts i ≡ sum (take i counts)

abbrev pub AreCodeLimits : List ℕ → List ℕ → List ℕ → Type 0
AreCodeLimits counts firsts limits = (i : ℕ) → i < 16 → slice_index limits i ≡ limit_from (slice_index firsts i) (drop i counts)

-- each entry is 0 or has a length and a number that fits it
pub record AreEntries (entries : List ℕ) : Type 0 where
  pub short : (symbol : ℕ) → symbol < 256 → slice_index entries symbol / 65536 ≤ 16
  pub fits : (symbol : ℕ) → symbol < 256 → slice_index entries symbol % 65536 < 2 ^ (slice_index entries symbol / 65536)

-- the first of two options that isn't None
abbrev pub or_else : Option (List Bool) → Option (List Bool) → Option (List Bool)
or_else None later = later
or_else (Some bits) later = Some bits

-- entries followed by codes have the same first codes as others followed by theirs
abbrev pub HaveFirstCodes : List ℕ → List Code → List ℕ → List Code → Type 0
HaveFirstCodes old codes new more = (symbol : ℕ) → symbol < 256 → or_else (entry_code (slice_index new symbol)) (first_code more symbol) ≡ or_else (entry_code (slice_index old symbol)) (first_code codes symbol)
