use Rattle.jpg_dct.proofs.LongSums.{wide_differences_are}
use Rattle.jpg_dct.proofs.inverse.short.less.Goals as goal

pub returns-clause-at : goal.returns-clause-at
returns-clause-at c = wide_differences_are c.args.a c.args.b c.requires.0 c.requires.1
