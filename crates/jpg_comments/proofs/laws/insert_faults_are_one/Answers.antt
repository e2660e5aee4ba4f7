use Rattle.jpg_comments.proofs.OneAnswer.{one_insert_fault}
use Rattle.jpg_comments.proofs.laws.insert_faults_are_one.Goals as goal

pub returns : goal.returns
returns c = λ limits bytes f g m n a b. one_insert_fault limits bytes f g m n a b
