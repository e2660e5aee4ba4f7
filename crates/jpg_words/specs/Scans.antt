-- How many scans words ask for.
use Rattle.std.specs.Prelude.{ℕ, Option, None, Some}

-- one scan if none are asked for
abbrev pub scans_or_one : Option ℕ → ℕ
scans_or_one None = 1
scans_or_one (Some scans) = scans
