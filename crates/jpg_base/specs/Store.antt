-- Bits at the high end of a word of 64 bits.
use Rattle.std.specs.Prelude.{◌≡◌, ℕ, ◌-◌, ◌*◌, ◌/◌, ◌^◌}

-- the high `count` bits, as a number
abbrev pub low_of : ℕ → ℕ → ℕ
low_of count word = word / 2 ^ (64 - count)

-- the bits below them are 0
abbrev pub IsHigh : ℕ → ℕ → Type 0
IsHigh count word = word ≡ low_of count word * 2 ^ (64 - count)
