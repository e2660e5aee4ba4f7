use Rattle.jpg_spec.proofs.Files.FileLaws.{shown_once}
use Rattle.jpg_spec.proofs.file_meaning_laws.files_show_one_fault.Goals as goal

pub returns : goal.returns
returns c = λ limits bytes f g s t. shown_once limits f g bytes s t
