use Rattle.std.proofs.Math.Path.{fun_ext}
use Rattle.jpg_spec.specs.Geometry.{padded_blocks}
use Rattle.jpg_coefs.proofs.Copied.{all_real}
use Rattle.jpg_color.specs.EncodeView.{view_blocks}
use Rattle.jpg_color.proofs.encode.filling.coefs_of.Goals as goal

pub returns-clause-blocks : goal.returns-clause-blocks
returns-clause-blocks c =
    let f = c.args.view.now.frame in
    fun_ext (λ i. fun_ext (λ x. fun_ext (λ y.
    all_real f (view_blocks c.args.view.now) c.in_ok-coefs.coefs c.put_components.new.coefs (padded_blocks f) c.in_ok-coefs.ensures.zero c.put_components.ensures i x y)))
