use Rattle.std.proofs.Common.{◌∙◌, ap, sym, subst}
use Rattle.jpg_coefs.specs.Picture.{Picture, with_block}
use Rattle.jpg_coefs.specs.Copied.{CopiesBlocks, is_place}
use Rattle.jpg_color.specs.EncodeView.{view_blocks}
use Rattle.jpg_coefs.proofs.Copied.{place_there, put_one}
use Rattle.jpg_color.proofs.encode.filling.put_block.Goals as goal

pub set_block-requires : goal.set_block-requires
set_block-requires c = place_there c.args.view.now.frame c.args.coefs.now.frame c.args.i c.args.x c.args.y c.checked.ensures c.requires.frame c.requires.there

pub returns : goal.returns
returns c =
    let i = c.args.i in
    let x = c.args.x in
    let y = c.args.y in
    let seen = view_blocks c.args.view.now in
    let old = c.args.coefs.now in
    let there = place_there c.args.view.now.frame old.frame i x y c.checked.ensures c.requires.frame c.requires.there in
    subst (λ (q : Picture). CopiesBlocks (is_place i x y) seen old q) (sym (c.set_block.ensures ∙ ap (λ b. with_block old i x y b) c.real_block.ensures)) (put_one i x y seen old there c.checked-2.ensures.count)
