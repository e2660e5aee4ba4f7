use Rattle.std.proofs.Common.{arith}
use Rattle.jpg_huff.specs.Counts.{capped}
use Rattle.jpg_huff.proofs.Marks.{count_raised, rows_raised}
use Rattle.jpg_huff.proofs.counts.count.Goals as goal

pub returns-clause-rows : goal.returns-clause-rows
unfolding capped
returns-clause-rows c = rows_raised c.args.rows.now c.args.slot c.args.symbol c.saturating_add.result c.requires.rows c.requires.slot c.requires.small c.saturating_add.ensures

pub returns-clause-counted : goal.returns-clause-counted
unfolding capped
returns-clause-counted c = count_raised c.args.rows.now c.args.slot c.args.symbol c.saturating_add.result c.requires.rows c.requires.slot (omega (arith, c.requires.small)) c.saturating_add.ensures
