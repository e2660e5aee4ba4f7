use Rattle.std.proofs.Common.{arith}
use Rattle.jpg_markers.proofs.HeadText.{components_step, components_end}
use Rattle.jpg_markers.proofs.writing.frame.contents_of.Goals as goal

pub loop-i-preserved : goal.loop-i-preserved
loop-i-preserved c = (
  components_step c.args.distinct.now c.args.frame.now c.args.tables.now c.loop-i.i c.slot_of-slot.result c.component.result c.index-tables-i.result c.add_component.new.contents.items c.loop-i.contents.items
      (omega (arith, c.loop-i-test.true, c.count-i-end.ensures.value)) (omega (arith, c.loop-i-test.true, c.count-i-end.ensures.value, c.requires.tables)) c.component.ensures.value c.index-tables-i.is c.slot_of-slot.ensures.value c.loop-i.invariant.0 c.add_component.ensures.value,
  omega (arith, c.add_component.ensures.more, c.loop-i.invariant.1),
)

pub returns : goal.returns
returns c = components_end c.args.distinct.now c.args.frame.now c.args.tables.now c.loop-i.i c.loop-i.contents.items (omega (arith, c.loop-i-test.false, c.count-i-end.ensures.value)) c.loop-i.invariant.0
