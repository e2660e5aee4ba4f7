use Rattle.jpg_spec_upright.proofs.TurnedUpright.{upright_one}
use Rattle.jpg_spec_upright.proofs.upright_laws.pictures_turned_upright_are_upright.Goals as goal

pub returns : goal.returns
returns c = λ choice M. upright_one choice M
