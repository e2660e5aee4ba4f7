-- The category of a number, and its additional bits (T.81, F.1.2.1 for DC, F.1.2.2 for AC).
use Rattle.std.specs.Prelude.{ℕ, zero, suc, ◌+◌, ◌-◌, ◌/◌, ◌^◌, Bool, true, false, ◌==◌, List, ℤ, pos, negsuc, nat_abs}
use Rattle.jpg_spec.specs.Bits.{bits_of}

-- the number of binary digits, 0 for 0 (The first number only bounds the recursion.)
abbrev pub digits_of : ℕ → ℕ → ℕ
digits_of zero n = 0
digits_of (suc most) n = elim (n == 0) [ true ↦ 0 | false ↦ suc (digits_of most (n / 2)) ]

unfoldable pub digits : ℕ → ℕ
digits n = digits_of n n

-- the category SSSS (Tables F.1 and F.2)
abbrev pub category : ℤ → ℕ
category v = digits (nat_abs v)

-- The bits that encode v among the numbers of its category: those of v, or of v + 2 ^ s - 1 if v is negative (F.1.2.1).
-- EXTEND finds v again from them (F.2.2.1, Figure F.12).
abbrev pub extra_bits : ℤ → List Bool
extra_bits (pos n) = bits_of (digits n) n
extra_bits (negsuc n) = bits_of (digits (n + 1)) (2 ^ digits (n + 1) - 1 - (n + 1))
