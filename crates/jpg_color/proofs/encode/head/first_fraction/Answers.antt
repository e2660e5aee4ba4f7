use Rattle.std.proofs.Common.{rules, length, arith}
use Rattle.jpg_color.specs.EncodeHead.{fraction_at}
use Rattle.jpg_color.proofs.FirstBelow.{first_below, none_below}
use Rattle.jpg_color.proofs.encode.head.first_fraction.Goals as goal

pub returns-then-has_fraction-clause-some : goal.returns-then-has_fraction-clause-some
returns-then-has_fraction-clause-some c =
    first_below (fraction_at c.args.components.now) (length c.args.components.now) c.loop-i.i c.loop-i.invariant (search rules) c.loop-i-test.true

pub returns-clause-none : goal.returns-clause-none
returns-clause-none c = none_below (fraction_at c.args.components.now) (length c.args.components.now) (λ k h. c.loop-i.invariant k (omega (arith, h, c.loop-i-test.false)))
