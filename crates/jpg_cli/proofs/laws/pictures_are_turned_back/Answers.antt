use Rattle.jpg_cli.proofs.Outcomes.Certain.{turned_back}
use Rattle.jpg_cli.proofs.laws.pictures_are_turned_back.Goals as goal

pub returns : goal.returns
returns c = λ t M run. turned_back t M run
