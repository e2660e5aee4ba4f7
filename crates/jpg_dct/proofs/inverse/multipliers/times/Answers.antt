use Rattle.std.specs.Int.{w16}
use Rattle.std.proofs.lemmas.Int.{wrapping_mul_is}
use Rattle.jpg_dct.proofs.inverse.multipliers.times.Goals as goal

pub returns : goal.returns
returns c = wrapping_mul_is w16 c.args.value c.args.factor c.ranges.value c.ranges.factor
