use Rattle.jpg_dct.proofs.EightQuotients.{sizes_are, sizes_fit}
use Rattle.jpg_dct.proofs.forward.eight_quotients.sizes.Goals as goal

pub overflow_cast-result : goal.overflow_cast-result
overflow_cast-result c = sizes_fit c.args.x c.requires

pub returns : goal.returns
returns c = sizes_are c.args.x c.requires
