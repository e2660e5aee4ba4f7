use Rattle.jpg_spec_image.proofs.OneImage.{comes_once}
use Rattle.jpg_spec_image.proofs.image_laws.images_come_to_one_thing.Goals as goal

pub returns : goal.returns
returns c = comes_once
