use Rattle.std.proofs.Common.{rules, ◌∙◌, ap, sym, subst}
use Rattle.jpg_coefs.specs.Picture.{Picture, with_block}
use Rattle.jpg_coefs.specs.Copied.{CopiesBlocks, is_place}
use Rattle.jpg_transform.specs.MovedBlocks.{moved_blocks}
use Rattle.jpg_coefs.proofs.Copied.{place_there, put_one}
use Rattle.jpg_transform.proofs.applying.put_block.Goals as goal

pub set_block-requires : goal.set_block-requires
set_block-requires c = place_there c.frame.result.now c.args.coefs.now.frame c.args.i c.args.x c.args.y c.checked.ensures (c.requires.frame ∙ sym c.frame.ensures) (search rules)

pub returns : goal.returns
returns c =
    let i = c.args.i in
    let x = c.args.x in
    let y = c.args.y in
    let seen = moved_blocks c.args.moved.now in
    let old = c.args.coefs.now in
    let there = place_there c.frame.result.now old.frame i x y c.checked.ensures (c.requires.frame ∙ sym c.frame.ensures) (search rules) in
    subst (λ (q : Picture). CopiesBlocks (is_place i x y) seen old q) (sym (c.set_block.ensures ∙ ap (λ b. with_block old i x y b) c.block.ensures)) (put_one i x y seen old there c.checked-2.ensures.count)
