use Rattle.std.proofs.Common.{ap, sym, subst, ◌≡◌, ◌∙◌}
use Rattle.jpg_spec.specs.Geometry.{Frame}
use Rattle.jpg_spec.specs.FrameHeader.{IsFrame}
use Rattle.jpg_coefs.specs.Picture.{Picture}
use Rattle.jpg_base.proofs.ScanPlaces.{padded_of}
use Rattle.jpg_coefs.proofs.Maps.{map_at}
use Rattle.jpg_coefs.proofs.coefs.CoefsBlockView.block.Goals as goal

pub padded_block-requires : goal.padded_block-requires
padded_block-requires c =
    let f : c.self.inside.frame ≡ c.args.self.now.frame = ap (λ (p : Picture). p.frame) c.self.view_is in
    padded_of c.args.self.now.frame c.args.component c.args.x c.args.y (subst (λ (g : Frame). IsFrame g) f c.self.invariant.0.frame) c.requires

pub returns : goal.returns
returns c =
    let f : c.self.inside.frame ≡ c.args.self.now.frame = ap (λ (p : Picture). p.frame) c.self.view_is in
    let k = padded_of c.args.self.now.frame c.args.component c.args.x c.args.y (subst (λ (g : Frame). IsFrame g) f c.self.invariant.0.frame) c.requires in
    c.padded_block.ensures ∙ sym (map_at c.args.self.now c.args.component c.args.x c.args.y k)
