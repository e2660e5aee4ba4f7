use Rattle.std.proofs.Common.{◌≡◌, length, take, drop}
use Rattle.jpg_fit.proofs.adjust.short_sizes.Given as goal

abbrev pub invariant-loop-i : goal.invariant-loop-i
invariant-loop-i l = record {
  same : take l.i l.short ≡ take l.i (drop 256 l.counts);
  size : length l.short ≡ 16;
}
