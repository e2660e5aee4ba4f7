use Rattle.jpg_spec.proofs.Files.FileLaws.{stands_too_long}
use Rattle.jpg_spec.proofs.file_meaning_laws.files_beyond_the_limit_are_too_long.Goals as goal

pub returns : goal.returns
returns c = λ limits bytes s long. stands_too_long limits bytes s long
