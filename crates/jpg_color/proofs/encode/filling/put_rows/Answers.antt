use Rattle.std.proofs.Common.{◌≡◌, ℕ, arith, subst, ap}
use Rattle.jpg_spec.specs.Geometry.{blocks_down, component_at}
use Rattle.jpg_coefs.specs.Copied.{CopiesBlocks, in_first_rows}
use Rattle.jpg_color.specs.EncodeView.{view_blocks}
use Rattle.jpg_coefs.proofs.Copied.{no_rows, rows_more}
use Rattle.jpg_color.proofs.encode.filling.put_rows.Goals as goal

pub loop-y-init : goal.loop-y-init
loop-y-init c = no_rows c.args.view.now.frame c.args.i (view_blocks c.args.view.now) c.args.coefs.now

pub loop-y-preserved : goal.loop-y-preserved
loop-y-preserved c =
    rows_more c.args.view.now.frame c.args.i c.loop-y.y (view_blocks c.args.view.now) c.args.coefs.now c.loop-y.coefs c.put_row.new.coefs c.loop-y.invariant c.put_row.ensures

pub returns : goal.returns
returns c =
    let i = c.args.i in
    let f = c.args.view.now.frame in
    let high : c.blocks-high.result.high ≡ blocks_down f (component_at f i) = ap (λ g. g.high) c.blocks-high.ensures.value in
    let all : c.loop-y.y ≡ blocks_down f (component_at f i) = omega (arith, high) in
    subst (λ (n : ℕ). CopiesBlocks (in_first_rows f i n) (view_blocks c.args.view.now) c.args.coefs.now c.loop-y.coefs) all c.loop-y.invariant
