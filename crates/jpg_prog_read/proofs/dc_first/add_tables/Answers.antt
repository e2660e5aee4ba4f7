use Rattle.jpg_spec.specs.declared.frame.ScanPart.{ScanPart}
use Rattle.jpg_prog_read.proofs.DcNew.{none_filled, filled_more}
use Rattle.jpg_prog_read.proofs.dc_first.add_tables.Goals as goal

pub loop-part-init : goal.loop-part-init
loop-part-init c = none_filled c.args.own.now c.args.tables.now c.args.parts.now c.requires.none

pub loop-part-preserved : goal.loop-part-preserved
loop-part-preserved c =
    let l = c.loop-part in
    let d : ScanPart = record { component = 0; dc = 0; ac = 0 } in
    filled_more c.args.tables.now c.args.parts.now l.part-index l.own c.add_table.new.own l.invariant (c.requires.small l.part-index d c.loop-part-test.true) (c.requires.there l.part-index d c.loop-part-test.true) c.add_table.ensures
