use Rattle.jpg_color.specs.EncodeView.{view_blocks}
use Rattle.jpg_coefs.proofs.Copied.{components_more}
use Rattle.jpg_color.proofs.encode.filling.put_components.Goals as goal

pub loop-i-preserved : goal.loop-i-preserved
loop-i-preserved c =
    components_more c.args.view.now.frame c.loop-i.i (view_blocks c.args.view.now) c.args.coefs.now c.loop-i.coefs c.put_rows.new.coefs c.loop-i.invariant c.put_rows.ensures
