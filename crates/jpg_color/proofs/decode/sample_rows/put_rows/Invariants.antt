use Rattle.std.specs.Prelude.{◌*◌, min}
use Rattle.jpg_color.specs.KeptRows.{stride, sample_of}
use Rattle.jpg_color.specs.RowBytes.{PutsRows}
use Rattle.jpg_color.proofs.decode.sample_rows.put_rows.Given as goal

abbrev pub invariant-loop-b : goal.invariant-loop-b
invariant-loop-b l =
    PutsRows (stride l.wide) l.kept (min l.of.count (8 * l.b)) (stride l.wide) (sample_of l.of) l.fn.samples l.samples
