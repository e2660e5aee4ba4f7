use Rattle.std.specs.Prelude.{◌≡◌, ◌<◌, ◌/◌, ◌%◌, ℕ, length, slice_index, pos, ◌-ℤ◌}
use Rattle.jpg_huff.specs.Encoder.{IsValueEntry}
use Rattle.jpg_huff.specs.Tables.{symbol_codes}
use Rattle.jpg_huff.proofs.encoder.fill_values.Given as goal

abbrev pub invariant-loop-i : goal.invariant-loop-i
invariant-loop-i l =
    (length l.values ≡ 1024) × (length l.counts ≡ 1024)
    × ((n : ℕ) → n < l.i → IsValueEntry (symbol_codes l.table) (n / 64) (pos (n % 64) -ℤ pos 32) (slice_index l.values n) (slice_index l.counts n))
