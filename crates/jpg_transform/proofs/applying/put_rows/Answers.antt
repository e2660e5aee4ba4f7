use Rattle.std.proofs.Common.{◌≡◌, ◌∙◌, ℕ, arith, subst, ap}
use Rattle.jpg_spec.specs.Geometry.{Frame, blocks_down, component_at}
use Rattle.jpg_coefs.specs.Copied.{CopiesBlocks, in_first_rows}
use Rattle.jpg_transform.specs.MovedBlocks.{moved_blocks, moved_numbers}
use Rattle.jpg_coefs.proofs.Copied.{no_rows, rows_more}
use Rattle.jpg_transform.proofs.applying.put_rows.Goals as goal

pub loop-y-init : goal.loop-y-init
loop-y-init c = no_rows (moved_numbers c.args.moved.now) c.args.i (moved_blocks c.args.moved.now) c.args.coefs.now

pub loop-y-preserved : goal.loop-y-preserved
loop-y-preserved c =
    rows_more (moved_numbers c.args.moved.now) c.args.i c.loop-y.y (moved_blocks c.args.moved.now) c.args.coefs.now c.loop-y.coefs c.put_row.new.coefs c.loop-y.invariant c.put_row.ensures

pub returns : goal.returns
returns c =
    let i = c.args.i in
    let f = moved_numbers c.args.moved.now in
    let high : c.blocks-high.result.high ≡ blocks_down f (component_at f i) =
    ap (λ g. g.high) c.blocks-high.ensures.value ∙ ap (λ (h : Frame). blocks_down h (component_at h i)) c.frame.ensures in
    let all : c.loop-y.y ≡ blocks_down f (component_at f i) = omega (arith, high) in
    subst (λ (n : ℕ). CopiesBlocks (in_first_rows f i n) (moved_blocks c.args.moved.now) c.args.coefs.now c.loop-y.coefs) all c.loop-y.invariant
