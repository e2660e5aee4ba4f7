use Rattle.jpg_spec_image.proofs.OneImage.{one_fault}
use Rattle.jpg_spec_image.proofs.image_laws.images_show_one_fault.Goals as goal

pub returns : goal.returns
returns c = one_fault
