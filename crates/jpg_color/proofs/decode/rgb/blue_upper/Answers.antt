use Rattle.std.proofs.Common.{arith}
use Rattle.std.proofs.lemmas.Int.{ints, to_z-of_z}
use Rattle.jpg_color.proofs.decode.rgb.blue_upper.Goals as goal

pub overflow_mul-from : goal.overflow_mul-from
overflow_mul-from c = omega (arith, ints)

pub overflow_sub-from : goal.overflow_sub-from
overflow_sub-from c = omega (arith, ints)

pub upper_half-requires : goal.upper_half-requires
upper_half-requires c = (omega (arith, ints), omega (arith, ints))

pub returns-clause-value : goal.returns-clause-value
returns-clause-value c = grind (arith, to_z-of_z, c.upper_half.ensures.value)
