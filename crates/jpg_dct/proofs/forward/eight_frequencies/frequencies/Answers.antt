use Rattle.std.proofs.Common.{arith}
use Rattle.jpg_dct.specs.Eights.{vector}
use Rattle.jpg_dct.proofs.Eights.{more_eight}
use Rattle.jpg_dct.proofs.EightFrequencies.{small_line, row_at, rows_small, number_at_is}
use Rattle.jpg_dct.proofs.forward.eight_frequencies.frequencies.Goals as goal

pub lines-rows-requires : goal.lines-rows-requires
lines-rows-requires c = λ u lu. small_line (vector c.levels-columns.result u) (c.levels-columns.ensures.all u lu)

pub turned-across-requires : goal.turned-across-requires
turned-across-requires c = λ u lu. more_eight (omega arith) (c.lines-rows.ensures.all u lu)

pub lines-requires : goal.lines-requires
lines-requires c =
    rows_small c.args.samples.now c.turned-across.result c.fits-samples c.turned-across.ensures.long
    (row_at c.args.samples.now c.levels-columns.result c.lines-rows.result c.turned-across.result c.levels-columns.ensures.at c.lines-rows.ensures.at c.turned-across.ensures.at)

pub returns-clause-at : goal.returns-clause-at
returns-clause-at c =
    number_at_is c.args.samples.now c.turned-across.result c.lines.result
    (row_at c.args.samples.now c.levels-columns.result c.lines-rows.result c.turned-across.result c.levels-columns.ensures.at c.lines-rows.ensures.at c.turned-across.ensures.at)
    c.lines.ensures.at
