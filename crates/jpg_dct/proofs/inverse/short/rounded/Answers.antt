use Rattle.std.proofs.Common.{refl}
use Rattle.jpg_dct.proofs.LaneSamples.{columns_fit, columns_are, columns_small}
use Rattle.jpg_dct.proofs.inverse.short.rounded.Goals as goal

pub overflow_cast-result : goal.overflow_cast-result
overflow_cast-result c = columns_fit c.args.x c.requires

pub returns-clause-all : goal.returns-clause-all
returns-clause-all c = columns_small c.args.x _ c.requires refl (columns_are c.args.x c.requires)

pub returns-clause-at : goal.returns-clause-at
returns-clause-at c = columns_are c.args.x c.requires
