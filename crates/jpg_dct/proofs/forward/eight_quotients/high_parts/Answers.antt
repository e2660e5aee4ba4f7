use Rattle.jpg_dct.proofs.EightQuotients.{high_parts_are}
use Rattle.jpg_dct.proofs.forward.eight_quotients.high_parts.Goals as goal

pub returns : goal.returns
returns c = high_parts_are c.args.a c.args.b c.fits-a.0 c.fits-b.0 c.fits-a.1 c.fits-b.1
