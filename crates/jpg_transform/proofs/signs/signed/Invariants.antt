use Rattle.std.proofs.Common.{◌≡◌, take, drop, ◌++◌}
use Rattle.jpg_spec_move.specs.Transforms.{signed}
use Rattle.jpg_transform.proofs.signs.signed.Given as goal

abbrev pub invariant-loop-k : goal.invariant-loop-k
invariant-loop-k l = l.turned ≡ take l.k (signed l.across l.down l.block) ++ drop l.k l.block
