use Rattle.jpg_cli.proofs.Outcomes.DueCommands.{encode_answered, encode_due}
use Rattle.jpg_cli.proofs.laws.encodings_are_due.Goals as goal

pub returns-clause-due : goal.returns-clause-due
returns-clause-due c = λ a old new w none h. encode_due a old new w none h

pub returns-clause-one : goal.returns-clause-one
returns-clause-one c = λ a due old told is new w none h. encode_answered a due w old new told is none h
