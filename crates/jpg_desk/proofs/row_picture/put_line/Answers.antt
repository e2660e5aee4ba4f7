use Rattle.std.proofs.Common.{rules, ◌≡◌, ◌∙◌, ℕ, arith, subst, ap, sym}
use Rattle.jpg_spec.specs.Geometry.{Frame, blocks_across, component_at}
use Rattle.jpg_base.specs.Cursor.{IsPadded}
use Rattle.jpg_coefs.specs.Copied.{CopiesBlocks, in_row, is_place}
use Rattle.jpg_coefs.specs.Picture.{Picture, with_block}
use Rattle.jpg_coefs.proofs.Copied.{put_one, row_more}
use Rattle.jpg_coefs.proofs.Maps.{map_at}
use Rattle.jpg_desk.specs.RowsKept.{line_blocks}
use Rattle.jpg_desk.proofs.row_picture.put_line.Goals as goal

pub loop-x-preserved : goal.loop-x-preserved
loop-x-preserved c =
    let i = c.args.i in
    let x = c.loop-x.x in
    let to = c.args.to in
    let seen = line_blocks c.args.row.now c.args.from in
    let mid = c.loop-x.coefs in
    let from : IsPadded c.args.row.now.frame i x c.args.from = search rules in
    let there : IsPadded mid.frame i x to = search rules in
    let block = c.block.ensures ∙ sym (map_at c.args.row.now i x c.args.from from) in
    row_more i to x seen c.args.coefs.now mid c.set_block.new.self c.loop-x.invariant
    (subst (λ (q : Picture). CopiesBlocks (is_place i x to) seen mid q) (sym (c.set_block.ensures ∙ ap (λ b. with_block mid i x to b) block)) (put_one i x to seen mid there c.checked.ensures.count))

pub returns : goal.returns
returns c =
    let i = c.args.i in
    let f = c.args.coefs.now.frame in
    let wide : c.blocks-wide.result.wide ≡ blocks_across f (component_at f i) =
    ap (λ g. g.wide) c.blocks-wide.ensures.value ∙ ap (λ (h : Frame). blocks_across h (component_at h i)) (c.frame.ensures ∙ c.requires.frame) in
    let all : c.loop-x.x ≡ blocks_across f (component_at f i) = omega (arith, wide) in
    subst (λ (n : ℕ). CopiesBlocks (in_row i c.args.to n) (line_blocks c.args.row.now c.args.from) c.args.coefs.now c.loop-x.coefs) all c.loop-x.invariant
