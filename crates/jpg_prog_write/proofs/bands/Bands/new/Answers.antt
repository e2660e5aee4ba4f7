use Rattle.std.proofs.Common.{refl}
use Rattle.jpg_prog_write.proofs.ElementsDue.{new_ready}
use Rattle.jpg_prog_write.proofs.bands.Bands.new.Goals as goal

pub returns-clause-ready : goal.returns-clause-ready
returns-clause-ready c = new_ready c.args.band _ c.requires refl c.zero.ensures refl refl refl refl c.new.ensures
