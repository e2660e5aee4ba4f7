use Rattle.jpg_transform.specs.MovedBlocks.{moved_blocks, moved_numbers}
use Rattle.jpg_coefs.proofs.Copied.{components_more}
use Rattle.jpg_transform.proofs.applying.put_components.Goals as goal

pub loop-i-preserved : goal.loop-i-preserved
loop-i-preserved c =
    components_more (moved_numbers c.args.moved.now) c.loop-i.i (moved_blocks c.args.moved.now) c.args.coefs.now c.loop-i.coefs c.put_rows.new.coefs c.loop-i.invariant c.put_rows.ensures
