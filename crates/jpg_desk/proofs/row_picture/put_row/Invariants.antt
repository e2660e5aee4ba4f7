use Rattle.jpg_coefs.specs.Copied.{CopiesBlocks}
use Rattle.jpg_desk.specs.RowsKept.{in_first_parts, row_blocks}
use Rattle.jpg_desk.proofs.row_picture.put_row.Given as goal

abbrev pub invariant-loop-i : goal.invariant-loop-i
invariant-loop-i l = CopiesBlocks (in_first_parts l.fn.coefs.frame l.k l.i) (row_blocks l.fn.coefs.frame l.k l.row) l.fn.coefs l.coefs
