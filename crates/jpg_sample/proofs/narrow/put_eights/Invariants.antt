use Rattle.std.specs.Prelude.{◌≡◌, ◌<◌, ◌*◌, ℕ, length, slice_index}
use Rattle.jpg_sample.specs.Means.{quarter_of}
use Rattle.jpg_sample.proofs.narrow.put_eights.Given as goal

abbrev pub invariant-loop-c : goal.invariant-loop-c
invariant-loop-c l = (length l.out ≡ length l.fn.out) × ((k : ℕ) → k < 8 * l.c → slice_index l.out k ≡ quarter_of l.rows l.width k)
