use Rattle.jpg_base.proofs.Places.{begins}
use Rattle.jpg_base.proofs.cursor.Cursor.first.Goals as goal

pub returns : goal.returns
returns c = begins c.args.parts.items c.args.wide c.args.high c.requires.some c.requires.factors c.requires.wide.0 c.requires.high.0
