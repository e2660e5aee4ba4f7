use Rattle.jpg_cli.proofs.Comments.InsertedThen.{insert_due}
use Rattle.jpg_cli.proofs.laws.inserted_comments_are_due.Goals as goal

pub returns : goal.returns
returns c = λ old task new why none inserted. insert_due old new task why none inserted
