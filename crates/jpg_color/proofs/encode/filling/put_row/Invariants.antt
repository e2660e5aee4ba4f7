use Rattle.jpg_coefs.specs.Copied.{CopiesBlocks, in_row}
use Rattle.jpg_color.specs.EncodeView.{view_blocks}
use Rattle.jpg_color.proofs.encode.filling.put_row.Given as goal

abbrev pub invariant-loop-x : goal.invariant-loop-x
invariant-loop-x l = CopiesBlocks (in_row l.i l.y l.x) (view_blocks l.view) l.fn.coefs l.coefs
