use Rattle.jpg_color.specs.RowBytes.{PutsBlock}
use Rattle.jpg_color.proofs.decode.sample_rows.put_some.Given as goal

abbrev pub invariant-loop-y : goal.invariant-loop-y
invariant-loop-y l = PutsBlock l.place.line l.place.row l.place.column l.y l.block l.fn.samples l.samples
