use Rattle.jpg_dct.proofs.EightQuotients.{plain_sums}
use Rattle.jpg_dct.proofs.forward.eight_quotients.sums.Goals as goal

pub returns : goal.returns
returns c = plain_sums c.args.a c.args.b c.fits-a.0 c.fits-b.0 c.requires
