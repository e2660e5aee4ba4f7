use Rattle.std.proofs.Common.{rules, ◌∙◌, arith}
use Rattle.jpg_dct.proofs.TableLists.{few_tables, table_more}
use Rattle.jpg_dct.proofs.table_text.tables_of.Goals as goal

pub push-requires : goal.push-requires
push-requires c = (omega arith, few_tables c.args.numbers.now c.loop-i.tables.items c.loop-i.i c.requires c.loop-i.invariant (search rules))

pub loop-i-preserved : goal.loop-i-preserved
loop-i-preserved c = c.push.ensures.items ∙ table_more c.args.numbers.now c.loop-i.tables.items _ c.loop-i.i c.loop-i.invariant c.table_of.ensures
