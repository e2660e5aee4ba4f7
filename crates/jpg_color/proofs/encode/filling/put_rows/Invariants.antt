use Rattle.jpg_coefs.specs.Copied.{CopiesBlocks, in_first_rows}
use Rattle.jpg_color.specs.EncodeView.{view_blocks}
use Rattle.jpg_color.proofs.encode.filling.put_rows.Given as goal

abbrev pub invariant-loop-y : goal.invariant-loop-y
invariant-loop-y l = CopiesBlocks (in_first_rows l.view.frame l.i l.y) (view_blocks l.view) l.fn.coefs l.coefs
