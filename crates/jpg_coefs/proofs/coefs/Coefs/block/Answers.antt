use Rattle.std.proofs.Common.{get_or, sym, ap, ◌∙◌, subst, arith}
use Rattle.jpg_spec.specs.Elements.{zeros}
use Rattle.jpg_spec.specs.Geometry.{Frame}
use Rattle.jpg_base.specs.Cursor.{IsPadded}
use Rattle.jpg_coefs.specs.Picture.{Picture, block_in}
use Rattle.jpg_coefs.proofs.Stored.{read_stored, stored_below}
use Rattle.jpg_coefs.proofs.coefs.Coefs.block.Goals as goal

pub get-requires : goal.get-requires
get-requires c =
    let i = c.self.inside in
    let f = ap (λ (p : Picture). p.frame) c.self.view_is in
    let there : IsPadded i.frame c.args.component c.args.x c.args.y = subst (λ (g : Frame). IsPadded g c.args.component c.args.x c.args.y) (sym f) c.requires in
    omega (arith, c.place.ensures i.frame c.self.invariant.0 there, stored_below i.frame i.layout.order c.args.component c.args.x c.args.y there, c.self.invariant.1)

pub returns : goal.returns
returns c =
    let i = c.self.inside in
    let f = ap (λ (p : Picture). p.frame) c.self.view_is in
    let there : IsPadded i.frame c.args.component c.args.x c.args.y = subst (λ (g : Frame). IsPadded g c.args.component c.args.x c.args.y) (sym f) c.requires in
    c.get.ensures
    ∙ ap (λ n. get_or i.blocks n (zeros 64)) (c.place.ensures i.frame c.self.invariant.0 there)
    ∙ sym (read_stored i.frame i.layout.order i.blocks c.args.component c.args.x c.args.y there)
    ∙ ap (λ (p : Picture). block_in p c.args.component c.args.x c.args.y) c.self.view_is
