-- What a table has in addition to its counts and symbols, so that a walk needs no search.
use Rattle.std.specs.Prelude.{◌≡◌, ℕ, ◌+◌, ◌*◌, ◌/◌, ◌%◌, ◌^◌, Option, None, Some, ◌<◌, ◌≤◌, List, [], ◌∷◌, length, drop, sum, slice_index, Bool, ◌==◌, if◌then◌else◌}
use Rattle.jpg_spec.specs.Bits.{bits_of}
use Rattle.jpg_spec.specs.Codes.{Code, first_code}

-- Where c is the first number of a length: how many strings of that length are a prefix of a code of that length or of
-- a longer one, or are before c.
abbrev pub limit_from : ℕ → List ℕ → ℕ
limit_from c [] = c
limit_from c (count ∷ counts) = (limit_from (2 * (c + count)) counts + 1) / 2

-- from this length on: the first number, the symbols before, and the limit
pub record IsIndexed (counts : List ℕ) (symbols : ℕ) (firsts starts limits : List ℕ) : Type 0 where
  pub sixteen : length counts ≡ 16
  pub size : symbols ≤ 256
  pub first : slice_index firsts 0 ≡ 0
  pub first_more : (i : ℕ) → i < 15 → slice_index firsts (i + 1) ≡ 2 * (slice_index firsts i + slice_index counts i)
  pub start : slice_index starts 0 ≡ 0
  pub start_more : (i : ℕ) → i < 15 → slice_index starts (i + 1) ≡ slice_index starts i + slice_index counts i
  pub limit : (i : ℕ) → i < 16 → slice_index limits i ≡ limit_from (slice_index firsts i) (drop i counts)
  pub fits : (i : ℕ) → i < 16 → slice_index firsts i + slice_index counts i < 2 ^ (i + 1)
  pub enough : (i : ℕ) → i < 16 → slice_index starts i + sum (drop i counts) ≤ symbols

-- The entry of a code in a table: 65536 times its length, plus its number; 0 for none.
abbrev pub entry_code : ℕ → Option (List Bool)
entry_code entry = if entry == 0 then None else Some (bits_of (entry / 65536) (entry % 65536))

-- each symbol's first code
pub record IsEncoder (table : List Code) (entries : List ℕ) : Type 0 where
  pub first : (symbol : ℕ) → symbol < 256 → entry_code (slice_index entries symbol) ≡ first_code table symbol
  pub short : (symbol : ℕ) → symbol < 256 → slice_index entries symbol / 65536 ≤ 16
  pub fits : (symbol : ℕ) → symbol < 256 → slice_index entries symbol % 65536 < 2 ^ (slice_index entries symbol / 65536)
