use Rattle.std.specs.Prelude.{◌≡◌, ◌*◌, take, length, flat_map}
use Rattle.jpg_spec.specs.Lists.{below}
use Rattle.jpg_spec_image.specs.Upsampling.{pair_of}
use Rattle.jpg_sample.proofs.smooth.up_row.Given as goal

abbrev pub invariant-loop-i : goal.invariant-loop-i
invariant-loop-i l = (length l.out ≡ 2 * length l.row) × (take (2 * l.i) l.out ≡ flat_map (pair_of l.row) (below l.i))
