use Rattle.jpg_spec_image.proofs.OneTarga.{one_image}
use Rattle.jpg_spec_image.proofs.targa_laws.targa_files_mean_one_image.Goals as goal

pub returns : goal.returns
returns c = one_image
