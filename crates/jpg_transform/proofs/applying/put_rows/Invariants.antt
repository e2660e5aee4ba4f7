use Rattle.jpg_coefs.specs.Copied.{CopiesBlocks, in_first_rows}
use Rattle.jpg_transform.specs.MovedBlocks.{moved_blocks, moved_numbers}
use Rattle.jpg_transform.proofs.applying.put_rows.Given as goal

abbrev pub invariant-loop-y : goal.invariant-loop-y
invariant-loop-y l = CopiesBlocks (in_first_rows (moved_numbers l.moved) l.i l.y) (moved_blocks l.moved) l.fn.coefs l.coefs
