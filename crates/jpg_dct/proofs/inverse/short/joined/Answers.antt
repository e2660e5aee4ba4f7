use Rattle.jpg_dct.proofs.LaneSamples.{bytes_fit, firsts_are, seconds_are}
use Rattle.jpg_dct.proofs.inverse.short.joined.Goals as goal

pub overflow_cast-result : goal.overflow_cast-result
overflow_cast-result c = bytes_fit c.args.a c.args.b c.fits-a.0 c.requires

pub returns-clause-first : goal.returns-clause-first
returns-clause-first c = firsts_are c.args.a c.args.b c.fits-a.0

pub returns-clause-second : goal.returns-clause-second
returns-clause-second c = seconds_are c.args.a c.args.b c.fits-a.0
