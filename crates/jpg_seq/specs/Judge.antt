-- The meaning of a symbol of an AC table in a sequential scan (T.81, F.1.2.2).
use Rattle.std.specs.Prelude.{◌≡◌, ◌≢◌, ◌⊎◌, ℕ, ◌/◌, ◌%◌, ◌<◌, ◌≤◌}

-- a size above the bound, or none with a run that is neither an end nor sixteen zeros
abbrev pub IsBadSymbol : ℕ → ℕ → Type 0
IsBadSymbol ac_cat symbol = (ac_cat < symbol % 16) ⊎ ((symbol % 16 ≡ 0) × (symbol ≢ 0) × (symbol ≢ 240))

-- a value after the last place
abbrev pub IsBadRun : ℕ → ℕ → ℕ → Type 0
IsBadRun ac_cat left symbol = (1 ≤ symbol % 16) × (symbol % 16 ≤ ac_cat) × (left ≤ symbol / 16)
