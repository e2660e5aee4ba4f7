use Rattle.std.specs.Prelude.{◌*◌}
use Rattle.jpg_color.specs.KeptRows.{stride, sample_of}
use Rattle.jpg_color.specs.RowBytes.{PutsRows}
use Rattle.jpg_color.proofs.decode.sample_rows.put_row_of_blocks.Given as goal

abbrev pub invariant-loop-x : goal.invariant-loop-x
invariant-loop-x l =
    PutsRows (stride l.wide) l.row l.of.count (8 * l.x) (sample_of l.of) l.fn.samples l.samples
