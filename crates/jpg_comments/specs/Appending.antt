-- Text appended to a list of bytes.
use Rattle.std.specs.Prelude.{◌≡◌, ℕ, ◌<◌, List, ◌++◌, length, take, Result, Ok, Err}
use Rattle.jpg_base.specs.declared.names.NoMemory.{NoMemory}

-- The complete text was appended; on NoMemory a first part of it, and something of it is left.
abbrev pub AppendsText : List ℕ → Result (Unit {0}) NoMemory → List ℕ → List ℕ → Type 0
AppendsText text (Ok u) old new = new ≡ old ++ text
AppendsText text (Err e) old new = (n : ℕ) × (new ≡ old ++ take n text) × (n < length text)
