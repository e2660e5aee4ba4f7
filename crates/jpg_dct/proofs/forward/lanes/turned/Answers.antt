use Rattle.jpg_dct.proofs.Eights.{turned_are, vectors_long, turned_lane}
use Rattle.jpg_dct.proofs.forward.lanes.turned.Goals as goal

pub returns-clause-long : goal.returns-clause-long
returns-clause-long c = vectors_long (turned_lane c.args.d)

pub returns-clause-at : goal.returns-clause-at
returns-clause-at c = turned_are c.args.d c.requires
