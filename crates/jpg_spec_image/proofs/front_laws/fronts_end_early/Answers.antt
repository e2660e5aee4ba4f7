use Rattle.jpg_spec_image.proofs.Fronts.{ends_early}
use Rattle.jpg_spec_image.proofs.front_laws.fronts_end_early.Goals as goal

pub returns : goal.returns
returns c = ends_early
