-- Values that bits begin with, by their code and its extra bits (T.81, F.1.2.2, F.2.2.2).
use Rattle.std.specs.Prelude.{◌≡◌, ◌⊎◌, ℕ, ◌+◌, ◌*◌, ◌<◌, ◌≤◌, Bool, List, length, take, drop, slice_index_or, Contains, pos, Option, None, Some}
use Rattle.jpg_spec.specs.Bits.{bits_of}
use Rattle.jpg_spec.specs.Codes.{Code}
use Rattle.jpg_spec.specs.Numbers.{category, extra_bits}
use Rattle.jpg_seq.specs.declared.values.ShortValue.{ShortValue}

-- a code, and as many extra bits as its symbol has, at most ten bits in all
pub record BeginsWithShortValue (codes : List Code) (bits : List Bool) (t : ShortValue) : Type 0 where
  pub code : ℕ
  pub size : ℕ
  pub some : 1 ≤ code
  pub sized : 1 ≤ size
  pub sum : t.length ≡ code + size
  pub few : code + size ≤ 10
  pub there : code + size ≤ length bits
  pub run : t.run < 16
  pub in_codes : Contains codes (take code bits, 16 * t.run + size)
  pub category : category t.value ≡ size
  pub extra : extra_bits t.value ≡ take size (drop code bits)

-- the code of the end of a block (EOB), of at most ten bits
pub record IsNextEnd (codes : List Code) (bits : List Bool) (t : ShortValue) : Type 0 where
  pub some : 1 ≤ t.length
  pub few : t.length ≤ 10
  pub there : t.length ≤ length bits
  pub run : t.run ≡ 64
  pub in_codes : Contains codes (take t.length bits, 0)

-- a value, or the end of a block
abbrev pub IsNextShortValue : List Code → List Bool → ShortValue → Type 0
IsNextShortValue codes bits t = BeginsWithShortValue codes bits t ⊎ IsNextEnd codes bits t

-- the bits begin with neither
abbrev pub TellsNone : List Code → List Bool → Type 0
TellsNone codes bits = (t : ShortValue) → IsNextShortValue codes bits t → ⊥

-- the result is no value exactly if the bits begin with neither
abbrev pub TellsOrNone : List Code → List Bool → ShortValue → Type 0
TellsOrNone codes bits t = ((t.length ≡ 0) × TellsNone codes bits) ⊎ IsNextShortValue codes bits t

-- the value that the first ten of the bits encode, or the end of a block, if there are ten
abbrev pub TellsShortValue : List Code → List Bool → Option ShortValue → Type 0
TellsShortValue codes bits None = (length bits < 10) ⊎ TellsNone codes bits
TellsShortValue codes bits (Some t) = IsNextShortValue codes bits t

-- There are fewer than ten bits, or they begin neither with a value that has a place after this many values nor with the
-- end of a block.
abbrev pub TellsNoPlace : List Code → ℕ → List Bool → Type 0
TellsNoPlace codes at bits = (length bits < 10) ⊎ ((t : ShortValue) → IsNextShortValue codes bits t → (64 ≤ at + t.run) × (t.run ≡ 64 → ⊥))

abbrev pub no_entry : ShortValue
no_entry = record { value = pos 0; run = 0; length = 0 }

-- the entries of all ten bits
pub record AreShortValues (codes : List Code) (entries : List ShortValue) : Type 0 where
  pub long : length entries ≡ 1024
  pub each : (n : ℕ) → n < 1024 → TellsOrNone codes (bits_of 10 n) (slice_index_or entries n no_entry)
