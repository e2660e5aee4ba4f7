use Rattle.std.specs.Prelude.{◌≡◌, ◌++◌, take, drop, replicate}
use Rattle.jpg_spec.specs.Transposed.{transposed}
use Rattle.jpg_base.proofs.quant.QuantTable.transposed.Given as goal

-- the places so far are those of the table exchanged, and the rest are zeros
abbrev pub invariant-loop-k : goal.invariant-loop-k
invariant-loop-k l = l.values ≡ take l.k (transposed 0 l.self-inside.values) ++ drop l.k (replicate 64 0)
