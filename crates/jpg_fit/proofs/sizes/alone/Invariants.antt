use Rattle.std.proofs.Common.{◌≡◌, length, take, map}
use Rattle.jpg_spec.specs.Lists.{below}
use Rattle.jpg_fit.proofs.sizes.alone.Given as goal

abbrev pub invariant-loop-i : goal.invariant-loop-i
invariant-loop-i l = record {
  same : take l.i l.members ≡ map (λ symbol. (symbol, 0)) (below l.i);
  size : length l.members ≡ 257;
}
