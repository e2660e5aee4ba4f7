use Rattle.jpg_cli.proofs.Outcomes.DueCommands.{answer_due}
use Rattle.jpg_cli.proofs.laws.answers_are_due.Goals as goal

pub returns : goal.returns
returns c = λ asked old new why none done. answer_due asked old new why none done
