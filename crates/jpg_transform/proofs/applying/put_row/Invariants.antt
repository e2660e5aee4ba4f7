use Rattle.jpg_coefs.specs.Copied.{CopiesBlocks, in_row}
use Rattle.jpg_transform.specs.MovedBlocks.{moved_blocks}
use Rattle.jpg_transform.proofs.applying.put_row.Given as goal

abbrev pub invariant-loop-x : goal.invariant-loop-x
invariant-loop-x l = CopiesBlocks (in_row l.i l.y l.x) (moved_blocks l.moved) l.fn.coefs l.coefs
