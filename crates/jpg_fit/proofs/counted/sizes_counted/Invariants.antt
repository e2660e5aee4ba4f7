use Rattle.std.proofs.Common.{◌≡◌, take}
use Rattle.jpg_fit.specs.Sizes.{all_sizes}
use Rattle.jpg_fit.proofs.counted.sizes_counted.Given as goal

abbrev pub invariant-loop-size : goal.invariant-loop-size
invariant-loop-size l = l.counts ≡ all_sizes (take l.size-index l.sizes)
