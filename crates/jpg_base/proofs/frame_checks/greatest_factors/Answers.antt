use Rattle.std.proofs.Common.{arith}
use Rattle.std.proofs.lemmas.Grind.{common_steps}
use Rattle.jpg_base.proofs.Grids.{across_low, across_high, down_low, down_high}
use Rattle.jpg_base.proofs.frame_checks.greatest_factors.Goals as goal

pub returns-clause-low : goal.returns-clause-low
returns-clause-low c = λ all some. (grind (arith, common_steps, across_low c.args.components.now all some), grind (arith, common_steps, down_low c.args.components.now all some))

pub returns-clause-high : goal.returns-clause-high
returns-clause-high c = λ all. (omega (arith, c.loop-component.invariant.0, across_high c.args.components.now all), omega (arith, c.loop-component.invariant.1, down_high c.args.components.now all))
