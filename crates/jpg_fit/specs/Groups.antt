-- Groups of symbols, as they are kept.
use Rattle.std.specs.Prelude.{ℕ, List}
use Rattle.jpg_spec_fit.specs.Fitted.{Groups}

-- the counts and the members
abbrev pub groups : List ℕ → List (ℕ × ℕ) → Groups
groups counts members = record { counts = counts; members = members }
