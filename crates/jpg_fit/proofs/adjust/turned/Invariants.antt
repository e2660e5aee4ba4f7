use Rattle.std.proofs.Common.{◌≡◌, length, take}
use Rattle.std.specs.Prelude.{reverse}
use Rattle.jpg_fit.proofs.adjust.turned.Given as goal

abbrev pub invariant-loop-i : goal.invariant-loop-i
invariant-loop-i l = record {
  same : take l.i l.bits ≡ take l.i (reverse l.counts);
  size : length l.bits ≡ 16;
}
