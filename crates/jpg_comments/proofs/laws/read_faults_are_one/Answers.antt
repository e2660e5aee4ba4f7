use Rattle.jpg_comments.specs.Printing.{HoldsWhole}
use Rattle.jpg_comments.proofs.OneAnswer.{one_fault}
use Rattle.jpg_comments.proofs.laws.read_faults_are_one.Goals as goal

pub returns : goal.returns
returns c = λ limits bytes f g m n a b. one_fault limits (HoldsWhole limits) bytes f g m n a b
