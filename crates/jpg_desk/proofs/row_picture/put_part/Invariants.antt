use Rattle.jpg_coefs.specs.Copied.{CopiesBlocks}
use Rattle.jpg_desk.specs.RowsKept.{in_first_lines, row_blocks}
use Rattle.jpg_desk.proofs.row_picture.put_part.Given as goal

abbrev pub invariant-loop-y : goal.invariant-loop-y
invariant-loop-y l = CopiesBlocks (in_first_lines l.fn.coefs.frame l.k l.i l.y) (row_blocks l.fn.coefs.frame l.k l.row) l.fn.coefs l.coefs
