use Rattle.jpg_comments.proofs.OneWhole.{one_whole}
use Rattle.jpg_comments.proofs.laws.whole_files_are_one.Goals as goal

pub returns : goal.returns
returns c = λ limits bytes n m before more a b. one_whole limits bytes n m before more a.0 b.0 a.1 b.1
