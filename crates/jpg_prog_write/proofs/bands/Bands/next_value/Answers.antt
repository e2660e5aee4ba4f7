use Rattle.std.proofs.Common.{refl}
use Rattle.jpg_prog_write.proofs.ElementsDue.{gives_value}
use Rattle.jpg_prog_write.proofs.bands.Bands.next_value.Goals as goal

pub returns-in-Some-clause-some : goal.returns-in-Some-clause-some
returns-in-Some-clause-some c = gives_value c.args.self.now _ c.in-Some.whole c.requires.ready c.requires.some c.requires.none c.in-Some.ensures.some refl
