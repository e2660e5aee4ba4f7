use Rattle.jpg_dct.proofs.LaneSamples.{excesses_are}
use Rattle.jpg_dct.proofs.inverse.short.excess.Goals as goal

pub returns : goal.returns
returns c = excesses_are c.args.a c.args.b c.fits-a.0 c.fits-b.0 c.fits-a.1 c.fits-b.1
