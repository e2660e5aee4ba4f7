use Rattle.std.specs.Prelude.{◌≡◌, take, length}
use Rattle.jpg_color.proofs.decode.blocks.numbers.Given as goal

abbrev pub invariant-loop-k : goal.invariant-loop-k
invariant-loop-k l = (length l.values ≡ 64) × (take l.k l.values ≡ take l.k l.block)
