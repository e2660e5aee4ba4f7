use Rattle.std.specs.Prelude.{◌≡◌, ◌+◌, ◌++◌, take, length, replicate}
use Rattle.jpg_sample.proofs.repeat.fill.Given as goal

abbrev pub invariant-loop-k : goal.invariant-loop-k
invariant-loop-k l = (length l.out ≡ length l.fn.out) × (take (l.at + l.k) l.out ≡ take l.at l.fn.out ++ replicate l.k l.sample)
