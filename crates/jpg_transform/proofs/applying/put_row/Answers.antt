use Rattle.std.proofs.Common.{◌≡◌, ◌∙◌, ℕ, arith, subst, ap}
use Rattle.jpg_spec.specs.Geometry.{Frame, blocks_across, component_at}
use Rattle.jpg_coefs.specs.Copied.{CopiesBlocks, in_row}
use Rattle.jpg_transform.specs.MovedBlocks.{moved_blocks, moved_numbers}
use Rattle.jpg_coefs.proofs.Copied.{row_more}
use Rattle.jpg_transform.proofs.applying.put_row.Goals as goal

pub loop-x-preserved : goal.loop-x-preserved
loop-x-preserved c = row_more c.args.i c.args.y c.loop-x.x (moved_blocks c.args.moved.now) c.args.coefs.now c.loop-x.coefs c.put_block.new.coefs c.loop-x.invariant c.put_block.ensures

pub returns : goal.returns
returns c =
    let i = c.args.i in
    let f = moved_numbers c.args.moved.now in
    let wide : c.blocks-wide.result.wide ≡ blocks_across f (component_at f i) =
    ap (λ g. g.wide) c.blocks-wide.ensures.value ∙ ap (λ (h : Frame). blocks_across h (component_at h i)) c.frame.ensures in
    let all : c.loop-x.x ≡ blocks_across f (component_at f i) = omega (arith, wide) in
    subst (λ (n : ℕ). CopiesBlocks (in_row i c.args.y n) (moved_blocks c.args.moved.now) c.args.coefs.now c.loop-x.coefs) all c.loop-x.invariant
