use Rattle.jpg_coefs.specs.Copied.{CopiesBlocks, in_row}
use Rattle.jpg_desk.specs.RowsKept.{line_blocks}
use Rattle.jpg_desk.proofs.row_picture.put_line.Given as goal

abbrev pub invariant-loop-x : goal.invariant-loop-x
invariant-loop-x l = CopiesBlocks (in_row l.i l.to l.x) (line_blocks l.row l.from) l.fn.coefs l.coefs
