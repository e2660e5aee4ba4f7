-- The counts and symbols of the table that is made for counts.
use Rattle.std.specs.Prelude.{◌≡◌, ◌≤◌, ℕ, List, length}
use Rattle.jpg_spec_fit.specs.Fitted.{fitted}

-- how many codes there are of each size, and their symbols, as the table for these counts has them
pub record AreParts (counts bits symbols : List ℕ) : Type 0 where
  pub short : length counts ≤ 256
  pub bits_are : bits ≡ (fitted counts).counts
  pub symbols_are : symbols ≡ (fitted counts).symbols
