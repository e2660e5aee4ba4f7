-- HOW MANY BITS codes take, for the law over tables made for counts.
use Rattle.std.specs.Prelude.{◌≡◌, ℕ, ◌+◌, ◌-◌, ◌*◌, ◌^◌, ◌≤◌, ◌==◌, if◌then◌else◌, List, [], ◌∷◌, length, All}

-- the bits of symbols that are sent as often as the counts say, by the sizes of their codes
abbrev pub bits_sent : List ℕ → List ℕ → ℕ
bits_sent [] sizes = 0
bits_sent (count ∷ counts) [] = 0
bits_sent (count ∷ counts) (size ∷ sizes) = count * size + bits_sent counts sizes

-- how many strings of `most` bits begin with the code of a symbol that is sent
abbrev pub strings_taken : ℕ → List ℕ → List ℕ → ℕ
strings_taken most [] sizes = 0
strings_taken most (count ∷ counts) [] = 0
strings_taken most (count ∷ counts) (size ∷ sizes) = (if count == 0 then 0 else 2 ^ (most - size)) + strings_taken most counts sizes

-- Sizes, of at most `most` bits, that some prefix code has: the codes of the symbols that are sent take no string twice.
pub record AreCodeSizes (most : ℕ) (counts sizes : List ℕ) : Type 0 where
  pub long : length sizes ≡ length counts
  pub short : All (λ size. size ≤ most) sizes
  pub fit : strings_taken most counts sizes ≤ 2 ^ most

-- no sizes of a prefix code for these counts take fewer bits
abbrev pub TakeFewestBits : List ℕ → List ℕ → Type 0
TakeFewestBits counts best = (most : ℕ) (sizes : List ℕ) → AreCodeSizes most counts sizes → bits_sent counts best ≤ bits_sent counts sizes
