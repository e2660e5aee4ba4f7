use Rattle.std.proofs.Common.{arith}
use Rattle.jpg_markers.proofs.Distinct.{distinct_step}
use Rattle.jpg_markers.proofs.writing.quants.distinct_tables.Goals as goal

pub loop-table-preserved : goal.loop-table-preserved
loop-table-preserved c = (
  distinct_step c.loop-table.distinct.items c.args.tables.now c.add_new.new.distinct.items _ c.loop-table.table-index c.table-item.result c.loop-table-test.true c.table-item.is c.add_new.ensures.value c.loop-table.invariant.0,
  omega (arith, c.add_new.ensures.few, c.loop-table.invariant.1),
)
