use Rattle.jpg_dct.proofs.ShortBlocks.{row_small, row_at}
use Rattle.jpg_dct.proofs.inverse.short.row.Goals as goal

pub returns-clause-all : goal.returns-clause-all
returns-clause-all c = row_small c.args.values.now c.part.result.now c.args.v c.part.ensures.long c.part.ensures.at c.requires.small

pub returns-clause-at : goal.returns-clause-at
returns-clause-at c = row_at c.args.values.now c.part.result.now c.args.v c.part.ensures.long c.part.ensures.at c.requires.small
