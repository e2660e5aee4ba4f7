use Rattle.std.proofs.Common.{◌≡◌, ℕ, arith, subst, ap}
use Rattle.jpg_spec.specs.Geometry.{blocks_across, component_at}
use Rattle.jpg_coefs.specs.Copied.{CopiesBlocks, in_row}
use Rattle.jpg_color.specs.EncodeView.{view_blocks}
use Rattle.jpg_coefs.proofs.Copied.{row_more}
use Rattle.jpg_color.proofs.encode.filling.put_row.Goals as goal

pub loop-x-preserved : goal.loop-x-preserved
loop-x-preserved c = row_more c.args.i c.args.y c.loop-x.x (view_blocks c.args.view.now) c.args.coefs.now c.loop-x.coefs c.put_block.new.coefs c.loop-x.invariant c.put_block.ensures

pub returns : goal.returns
returns c =
    let i = c.args.i in
    let f = c.args.view.now.frame in
    let wide : c.blocks-wide.result.wide ≡ blocks_across f (component_at f i) = ap (λ g. g.wide) c.blocks-wide.ensures.value in
    let all : c.loop-x.x ≡ blocks_across f (component_at f i) = omega (arith, wide) in
    subst (λ (n : ℕ). CopiesBlocks (in_row i c.args.y n) (view_blocks c.args.view.now) c.args.coefs.now c.loop-x.coefs) all c.loop-x.invariant
