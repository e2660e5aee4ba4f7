use Rattle.jpg_dct.proofs.LongSums.{wide_more_is}
use Rattle.jpg_dct.proofs.inverse.short.more.Goals as goal

pub returns-clause-at : goal.returns-clause-at
returns-clause-at c = wide_more_is c.args.a c.args.n c.requires c.ranges.n
