-- The result of the bytes of a text of tables, one by one. TableText of jpg_spec defines what a text is.
use Rattle.std.specs.Prelude.{ℕ, ◌+◌, ◌-◌, ◌*◌, ◌<◌, ◌≤◌, nat_lt, nat_le, ◌&&◌, ◌==◌, if◌then◌else◌, List, [], ◌∷◌, ◌++◌, length, Option, None, Some}
use Rattle.jpg_spec.specs.NumberTexts.{is_digit, is_space}
use Rattle.jpg_spec.specs.Segments.{QuantTable}
use Rattle.jpg_spec.specs.TextReaders.{TextReader}
use Rattle.jpg_spec_image.specs.TableText.{is_count, tables_form, tables_of}
use Rattle.arrayvec.specs.ArrayVec.{ArrayVec}
use Rattle.jpg_texts.specs.TextKinds.{TextKind}

-- NUMBERS: the complete ones, and of the current one how many digits were read and their value

pub record NumbersState : Type 0 where
  pub numbers : List ℕ
  pub digits : ℕ
  pub value : ℕ

abbrev pub no_numbers : NumbersState
no_numbers = record { numbers = []; digits = 0; value = 0 }

-- the current number is complete before a byte that isn't a digit
abbrev pub ended : NumbersState → NumbersState
ended s = if s.digits == 0 then s else record { numbers = s.numbers ++ s.value ∷ []; digits = 0; value = 0 }

abbrev pub digit_step : NumbersState → ℕ → Option NumbersState
digit_step s d =
    if nat_lt (length s.numbers) 256 && (nat_lt s.digits 5 && nat_le (10 * s.value + d) 65535)
    then Some (record { numbers = s.numbers; digits = s.digits + 1; value = 10 * s.value + d })
    else None

abbrev pub number_step : NumbersState → ℕ → Option NumbersState
number_step s b = if is_digit b then digit_step s (b - 48) else if is_space b then Some (ended s) else None

-- the tables, if the text ends here
abbrev pub parsed_tables : NumbersState → Option (List QuantTable)
parsed_tables s = if is_count (length (ended s).numbers) then Some (tables_of (ended s).numbers) else None

-- the current number is one of 256 at most
abbrev pub HasRoom : List ℕ → ℕ → Type 0
HasRoom numbers digits = 1 ≤ digits → length numbers < 256

abbrev pub table_reader : TextReader (List QuantTable) NumbersState
table_reader = record { start = no_numbers; step = number_step; told = parsed_tables }

abbrev pub tables_kind : TextKind NumbersState (ArrayVec QuantTable)
tables_kind = record { A = List QuantTable; form = tables_form; reader = table_reader; value = λ tables. tables.items }
