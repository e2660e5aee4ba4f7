use Rattle.std.proofs.Common.{refl}
use Rattle.jpg_dct.proofs.Eights.{roundeds_are, all_fit, all_rounded}
use Rattle.jpg_dct.proofs.forward.lanes.rounded.Goals as goal

pub overflow_cast-result : goal.overflow_cast-result
overflow_cast-result c = all_fit c.args.x c.requires

pub returns-clause-all : goal.returns-clause-all
returns-clause-all c = all_rounded c.args.x _ c.requires refl (roundeds_are c.args.x c.requires)

pub returns-clause-at : goal.returns-clause-at
returns-clause-at c = roundeds_are c.args.x c.requires
