use Rattle.jpg_dct.proofs.Eights.{wide_sums_are}
use Rattle.jpg_dct.proofs.forward.lanes.both.Goals as goal

pub returns-clause-at : goal.returns-clause-at
returns-clause-at c = wide_sums_are c.args.a c.args.b c.requires.0 c.requires.1
