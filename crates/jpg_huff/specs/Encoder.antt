-- The entries for small values after short runs of zeros, and for the tables of a set.
use Rattle.std.specs.Prelude.{◌≡◌, ℕ, ◌+◌, ◌*◌, ◌/◌, ◌%◌, ◌^◌, ◌<◌, ◌≤◌, ◌-◌, List, ◌++◌, slice_index, slice_get, Option, ℤ, pos, ◌-ℤ◌}
use Rattle.std.specs.Option.{option_map}
use Rattle.jpg_spec.specs.Lists.{slot_value}
use Rattle.jpg_spec.specs.Bits.{bits_of}
use Rattle.jpg_spec.specs.Codes.{Code}
use Rattle.jpg_spec.specs.Numbers.{category, extra_bits}
use Rattle.jpg_spec.specs.Codes.{code_of}
use Rattle.jpg_huff.specs.declared.set.TableSet.{TableSet}
use Rattle.jpg_huff.specs.Sets.{ac_tables, in_slot}
use Rattle.jpg_huff.specs.Tables.{symbol_codes}

-- the bits, and how many they are: the first code of the value's symbol, if any, and its extra bits
pub record IsValueEntry (codes : List Code) (run : ℕ) (value : ℤ) (entry count : ℕ) : Type 0 where
  pub bits : bits_of count entry ≡ code_of codes (16 * run + category value) ++ extra_bits value
  pub short : count ≤ 32
  pub fits : entry < 2 ^ count

-- by 64 times the run, plus the value and 32
abbrev pub AreValueEntries : List Code → List ℕ → List ℕ → Type 0
AreValueEntries codes entries counts = (i : ℕ) → i < 1024 → IsValueEntry codes (i / 64) (pos (i % 64) -ℤ pos 32) (slice_index entries i) (slice_index counts i)

-- The number of a symbol's first code, if any, with as many bits behind it as its category says: zeros, or for negative values
-- (sign 1) ones. With a value of that category added these are its extra bits (T.81, F.1.2.1).
pub record IsBase (codes : List Code) (symbol sign base length : ℕ) : Type 0 where
  pub code : ℕ
  pub count : ℕ
  pub short : count ≤ 16
  pub fits : code < 2 ^ count
  pub first : bits_of count code ≡ code_of codes symbol
  pub number : base ≡ code * 2 ^ (symbol % 16) + sign * (2 ^ (symbol % 16) - 1)
  pub all : length ≡ count + symbol % 16

-- by the symbol, plus 256 times the sign
abbrev pub AreBases : List Code → List ℕ → List ℕ → Type 0
AreBases codes bases lengths = (i : ℕ) → i < 512 → IsBase codes (i % 256) (i / 256) (slice_index bases i) (slice_index lengths i)

-- by slots, the codes of the AC tables of a set
pub record AreEncodersOf (tables : TableSet) (ac : List (Option (List Code))) : Type 0 where
  pub of_ac : (slot : ℕ) → slot_value (slice_get ac slot) ≡ option_map symbol_codes (in_slot (ac_tables tables) slot)
