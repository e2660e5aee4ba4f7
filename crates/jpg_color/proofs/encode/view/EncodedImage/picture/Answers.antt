use Rattle.jpg_color.specs.EncodeView.{view_parts}
use Rattle.jpg_color.proofs.PicturesEncoded.{picture_is, picture_means}
use Rattle.jpg_color.proofs.encode.view.EncodedImage.picture.Goals as goal

pub invariant_of-result : goal.invariant_of-result
invariant_of-result c =
    let e = c.in_ok-coefs.ensures in
    record { keeps = picture_is (view_parts c.args.self) c.in_ok-coefs.coefs c.args.self.keeps e.frame e.blocks }

pub returns-clause-means : goal.returns-clause-means
returns-clause-means c = picture_means (view_parts c.args.self) c.in_ok-coefs.coefs c.in_ok-coefs.ensures.blocks
