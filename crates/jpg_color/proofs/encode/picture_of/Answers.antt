use Rattle.std.proofs.Common.{List, [], ℕ, subst}
use Rattle.jpg_color.specs.Encode.{image_of}
use Rattle.jpg_color.specs.EncodeView.{IsEncodedView}
use Rattle.jpg_color.proofs.PicturesEncoded.{picture_all}
use Rattle.jpg_color.proofs.encode.picture_of.Goals as goal

pub returns : goal.returns
returns c =
    let i = c.args.image.now in
    picture_all c.picture.result i c.in_ok-finish.field-0 c.args.sampler c.picture.ensures.means c.picture.ensures.jfif
    (λ a has. subst (λ (samples : List ℕ). IsEncodedView (image_of i.info samples) a c.in_ok-finish.field-0) c.as_slice.ensures
    (c.in_ok-finish.ensures i.info a c.as_slice.result.now (c.in_ok-feed.ensures.adds i.info a [] has)))
