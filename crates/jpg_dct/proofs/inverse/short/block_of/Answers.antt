use Rattle.jpg_dct.proofs.ShortBlocks.{told_rows}
use Rattle.jpg_dct.proofs.inverse.short.block_of.Goals as goal

pub returns : goal.returns
returns c = told_rows c.args.p0 c.args.p1 c.args.p2 c.args.p3 c.requires.0 c.requires.1
