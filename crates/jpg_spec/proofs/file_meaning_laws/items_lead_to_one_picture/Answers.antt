use Rattle.jpg_spec.proofs.Files.BlocksOnce.{blocks_once}
use Rattle.jpg_spec.proofs.file_meaning_laws.items_lead_to_one_picture.Goals as goal

pub returns : goal.returns
returns c = λ limits items blocks others l k. blocks_once limits items blocks others l k
