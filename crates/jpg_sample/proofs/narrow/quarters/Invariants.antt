use Rattle.std.specs.Prelude.{◌≡◌, ◌<◌, ℕ, length, slice_index}
use Rattle.jpg_sample.specs.Means.{quarter_of}
use Rattle.jpg_sample.proofs.narrow.quarters.Given as goal

abbrev pub invariant-loop-x : goal.invariant-loop-x
invariant-loop-x l = (length l.out ≡ length l.fn.out) × ((k : ℕ) → k < l.x → slice_index l.out k ≡ quarter_of l.rows l.width k)
