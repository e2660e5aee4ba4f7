use Rattle.jpg_spec_image.proofs.Fronts.{more_front}
use Rattle.jpg_spec_image.proofs.front_laws.fronts_stay_with_more_bytes.Goals as goal

pub returns : goal.returns
returns c = more_front
