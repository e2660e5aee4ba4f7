use Rattle.std.proofs.Common.{◌≡◌, ◌<◌, ℕ, length, slice_index}
use Rattle.jpg_seq.specs.Reader.{rows_in_mcu}
use Rattle.jpg_transform.proofs.row_mover.all_rows.Given as goal

abbrev pub invariant-loop-i : goal.invariant-loop-i
invariant-loop-i l = (length l.rows ≡ 4) × ((k : ℕ) → k < l.i → slice_index l.rows k ≡ rows_in_mcu l.source k)
