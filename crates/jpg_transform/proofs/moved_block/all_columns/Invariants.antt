use Rattle.std.proofs.Common.{◌≡◌, ◌<◌, ℕ, length, slice_index}
use Rattle.jpg_spec_move.specs.Moved.{columns_in}
use Rattle.jpg_transform.proofs.moved_block.all_columns.Given as goal

abbrev pub invariant-loop-i : goal.invariant-loop-i
invariant-loop-i l = (length l.columns ≡ 4) × ((k : ℕ) → k < l.i → slice_index l.columns k ≡ columns_in l.transform l.frame k)
