use Rattle.jpg_spec_image.proofs.OneImage.{nothing_after}
use Rattle.jpg_spec_image.proofs.image_laws.nothing_comes_after.Goals as goal

pub returns : goal.returns
returns c = nothing_after
