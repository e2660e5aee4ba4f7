use Rattle.jpg_comments.proofs.OneWhole.{one_inserted}
use Rattle.jpg_comments.proofs.laws.inserted_files_are_one.Goals as goal

pub returns : goal.returns
returns c = λ limits bytes comment replace text other a b. one_inserted limits bytes comment replace text other a b
