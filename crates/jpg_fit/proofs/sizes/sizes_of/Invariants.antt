use Rattle.std.proofs.Common.{◌≡◌, length, take, map}
use Rattle.jpg_fit.proofs.sizes.sizes_of.Given as goal

abbrev pub invariant-loop-i : goal.invariant-loop-i
invariant-loop-i l = record {
  same : take l.i l.sizes ≡ map (λ m. m.1) (take l.i l.members);
  size : length l.sizes ≡ 257;
}
