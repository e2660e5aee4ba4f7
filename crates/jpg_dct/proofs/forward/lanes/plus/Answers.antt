use Rattle.jpg_dct.proofs.Eights.{sums_are}
use Rattle.jpg_dct.proofs.forward.lanes.plus.Goals as goal

pub returns-clause-at : goal.returns-clause-at
returns-clause-at c = sums_are c.args.a c.args.b c.requires.0 c.requires.1
