use Rattle.std.specs.Prelude.{◌≡◌, ◌*◌, take, length, flat_map}
use Rattle.jpg_spec.specs.Lists.{below}
use Rattle.jpg_spec_image.specs.Upsampling.{pair_of2}
use Rattle.jpg_sample.proofs.smooth.up_rows2.Given as goal

abbrev pub invariant-loop-i : goal.invariant-loop-i
invariant-loop-i l = (length l.out ≡ 2 * length l.near) × (take (2 * l.i) l.out ≡ flat_map (pair_of2 l.near l.far) (below l.i))
