-- The meaning of a symbol of an AC table in a progressive scan (T.81, G.1.2.2, G.1.2.3).
use Rattle.std.specs.Prelude.{◌≡◌, ℕ, ◌+◌, ◌*◌, ◌/◌, ◌%◌, ◌<◌, ◌≤◌}
use Rattle.jpg_prog_read.specs.declared.symbols.ProgressiveSymbol.{ProgressiveSymbol}
use Rattle.jpg_prog_read.specs.declared.symbols.ProgressiveSymbol.TheVariants.{Value, Long, End, Count, BadSymbol, BadRun}

abbrev pub Judges : ℕ → ℕ → ℕ → ProgressiveSymbol → Type 0
Judges most left symbol (Value run size) = (symbol ≡ 16 * run + size) × (1 ≤ size) × (size ≤ most) × (run < left) × (run ≤ 15) × (size ≤ 15)
Judges most left symbol Long = symbol ≡ 0xf0
Judges most left symbol End = symbol ≡ 0
Judges most left symbol (Count size) = (symbol ≡ 16 * size) × (1 ≤ size) × (size ≤ 14)
Judges most left symbol BadSymbol = most < symbol % 16
Judges most left symbol BadRun = (1 ≤ symbol % 16) × (symbol % 16 ≤ most) × (left ≤ symbol / 16)
