use Rattle.std.proofs.Common.{◌≡◌, ◌*◌, ◌/◌, ◌<◌, ℕ, length, slice_index}
use Rattle.jpg_spec.specs.Geometry.{component_at, v_max}
use Rattle.jpg_crop.proofs.cropped_block.all_rows.Given as goal

abbrev pub invariant-loop-i : goal.invariant-loop-i
invariant-loop-i l = (length l.rows ≡ 4) × ((k : ℕ) → k < l.i → slice_index l.rows k ≡ (l.fn.y0 / (8 * v_max l.fn.frame)) * (component_at l.fn.frame k).v)
