use Rattle.std.proofs.Common.{refl}
use Rattle.jpg_dct.proofs.EightQuotients.{signed_are, signed_eight}
use Rattle.jpg_dct.proofs.forward.eight_quotients.signed.Goals as goal

pub returns-clause-all : goal.returns-clause-all
returns-clause-all c = signed_eight c.args.x _ c.args.sizes refl c.requires.small (signed_are c.args.x c.args.sizes c.requires.lanes c.fits-sizes.0 c.requires.small)

pub returns-clause-at : goal.returns-clause-at
returns-clause-at c = signed_are c.args.x c.args.sizes c.requires.lanes c.fits-sizes.0 c.requires.small
