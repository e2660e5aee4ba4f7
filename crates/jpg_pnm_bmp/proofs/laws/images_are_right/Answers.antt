use Rattle.jpg_pnm_bmp.proofs.ImageRight.{image_right}
use Rattle.jpg_pnm_bmp.proofs.laws.images_are_right.Goals as goal

pub returns : goal.returns
returns c = image_right
