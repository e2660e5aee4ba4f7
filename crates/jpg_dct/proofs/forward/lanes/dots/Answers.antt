use Rattle.jpg_dct.proofs.Eights.{dots_are}
use Rattle.jpg_dct.proofs.forward.lanes.dots.Goals as goal

pub returns-clause-at : goal.returns-clause-at
returns-clause-at c = dots_are c.args.a c.args.b c.args.k c.args.l c.requires.0 c.requires.1 c.ranges.k c.ranges.l
