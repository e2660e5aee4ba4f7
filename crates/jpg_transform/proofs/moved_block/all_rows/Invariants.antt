use Rattle.std.proofs.Common.{◌≡◌, ◌<◌, ℕ, length, slice_index}
use Rattle.jpg_spec_move.specs.Moved.{rows_in}
use Rattle.jpg_transform.proofs.moved_block.all_rows.Given as goal

abbrev pub invariant-loop-i : goal.invariant-loop-i
invariant-loop-i l = (length l.rows ≡ 4) × ((k : ℕ) → k < l.i → slice_index l.rows k ≡ rows_in l.transform l.frame k)
