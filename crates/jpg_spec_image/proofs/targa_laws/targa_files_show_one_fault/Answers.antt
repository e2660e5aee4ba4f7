use Rattle.jpg_spec_image.proofs.OneTarga.{one_fault}
use Rattle.jpg_spec_image.proofs.targa_laws.targa_files_show_one_fault.Goals as goal

pub returns : goal.returns
returns c = one_fault
