use Rattle.jpg_dct.proofs.Eights.{differences_are}
use Rattle.jpg_dct.proofs.forward.lanes.minus.Goals as goal

pub returns-clause-at : goal.returns-clause-at
returns-clause-at c = differences_are c.args.a c.args.b c.requires.0 c.requires.1
