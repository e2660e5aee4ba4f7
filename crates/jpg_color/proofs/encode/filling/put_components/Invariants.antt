use Rattle.jpg_coefs.specs.Copied.{CopiesBlocks, in_components}
use Rattle.jpg_color.specs.EncodeView.{view_blocks}
use Rattle.jpg_color.proofs.encode.filling.put_components.Given as goal

abbrev pub invariant-loop-i : goal.invariant-loop-i
invariant-loop-i l = CopiesBlocks (in_components l.view.frame l.i) (view_blocks l.view) l.fn.coefs l.coefs
