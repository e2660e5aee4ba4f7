use Rattle.jpg_coefs.specs.Copied.{CopiesBlocks, in_components}
use Rattle.jpg_transform.specs.MovedBlocks.{moved_blocks, moved_numbers}
use Rattle.jpg_transform.proofs.applying.put_components.Given as goal

abbrev pub invariant-loop-i : goal.invariant-loop-i
invariant-loop-i l = CopiesBlocks (in_components (moved_numbers l.moved) l.i) (moved_blocks l.moved) l.fn.coefs l.coefs
