use Rattle.std.proofs.Common.{◌≡◌, ◌*◌, ◌/◌, ◌<◌, ℕ, length, slice_index}
use Rattle.jpg_spec.specs.Geometry.{component_at, h_max}
use Rattle.jpg_crop.proofs.cropped_block.all_columns.Given as goal

abbrev pub invariant-loop-i : goal.invariant-loop-i
invariant-loop-i l = (length l.columns ≡ 4) × ((k : ℕ) → k < l.i → slice_index l.columns k ≡ (l.fn.x0 / (8 * h_max l.fn.frame)) * (component_at l.fn.frame k).h)
