use Rattle.std.proofs.Common.{◌≡◌, length, take}
use Rattle.std.specs.Prelude.{slice_index}
use Rattle.jpg_fit.proofs.sizes.all_counts.Given as goal

abbrev pub invariant-loop-i : goal.invariant-loop-i
invariant-loop-i l = record {
  front : take l.i l.all ≡ take l.i l.counts;
  last : slice_index l.all 256 ≡ 1;
  size : length l.all ≡ 257;
}
