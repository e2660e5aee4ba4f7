use Rattle.jpg_spec.proofs.EndsEarly.EarlyRanges.{meaning_in_range}
use Rattle.jpg_spec.proofs.file_meaning_laws.blocks_of_files_are_whole.Goals as goal

pub returns : goal.returns
returns c = λ limits bytes M i x y m. (meaning_in_range limits bytes M m).sizes i x y
