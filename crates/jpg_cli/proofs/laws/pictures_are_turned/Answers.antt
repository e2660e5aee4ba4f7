use Rattle.jpg_cli.proofs.Outcomes.Certain.{turned_certain}
use Rattle.jpg_cli.proofs.Outcomes.OneRefusal.{transformed_file}
use Rattle.jpg_cli.proofs.laws.pictures_are_turned.Goals as goal

pub returns-clause-certain : goal.returns-clause-certain
returns-clause-certain c = λ asked old picture new why none done. turned_certain asked old new why picture none done

pub returns-clause-read : goal.returns-clause-read
returns-clause-read c = λ asked old file new why done. transformed_file asked old new why file done
