use Rattle.jpg_spec_image.proofs.OpenTarga.{open_few}
use Rattle.jpg_spec_image.proofs.targa_laws.open_targa_files_are_short.Goals as goal

pub returns : goal.returns
returns c = open_few
