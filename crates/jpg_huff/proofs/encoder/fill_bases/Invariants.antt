use Rattle.std.specs.Prelude.{◌≡◌, ◌<◌, ◌/◌, ◌%◌, ℕ, length, slice_index}
use Rattle.jpg_huff.specs.Encoder.{IsBase}
use Rattle.jpg_huff.specs.Tables.{symbol_codes}
use Rattle.jpg_huff.proofs.encoder.fill_bases.Given as goal

abbrev pub invariant-loop-i : goal.invariant-loop-i
invariant-loop-i l =
    (length l.bases ≡ 512) × (length l.lengths ≡ 512) × ((n : ℕ) → n < l.i → IsBase (symbol_codes l.table) (n % 256) (n / 256) (slice_index l.bases n) (slice_index l.lengths n))
