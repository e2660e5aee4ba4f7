use Rattle.jpg_prog_read.specs.DcNew.{AreDcTablesFilled}
use Rattle.jpg_prog_read.proofs.dc_first.add_tables.Given as goal

abbrev pub invariant-loop-part : goal.invariant-loop-part
invariant-loop-part l = AreDcTablesFilled l.tables l.parts l.part-index l.own
