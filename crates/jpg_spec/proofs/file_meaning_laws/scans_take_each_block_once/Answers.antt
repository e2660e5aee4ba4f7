use Rattle.jpg_spec.proofs.Places.PlacesDistinct.{units_distinct}
use Rattle.jpg_spec.proofs.file_meaning_laws.scans_take_each_block_once.Goals as goal

pub returns : goal.returns
returns c = λ f parts e. units_distinct f parts e
