use Rattle.jpg_spec_image.proofs.OneImage.{one_image}
use Rattle.jpg_spec_image.proofs.image_laws.bytes_hold_one_image.Goals as goal

pub returns : goal.returns
returns c = one_image
