use Rattle.std.specs.Prelude.{◌≡◌, drop, length}
use Rattle.jpg_spec.specs.Lists.{any_of}
use Rattle.jpg_spec.specs.QuantContents.{is_zero_quant}
use Rattle.jpg_markers.proofs.quants.has_zero.Given as goal

abbrev pub invariant-loop-k : goal.invariant-loop-k
invariant-loop-k l = (length l.table ≡ 64) × (any_of is_zero_quant l.table ≡ any_of is_zero_quant (drop l.k l.table))
