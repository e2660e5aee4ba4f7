use Rattle.jpg_comments.specs.Inserting.{HoldsHead}
use Rattle.jpg_comments.proofs.OneAnswer.{heads_sound, whole_no_fault}
use Rattle.jpg_comments.proofs.laws.heads_have_no_fault.Goals as goal

pub returns : goal.returns
returns c = λ limits bytes n at fault head shown. whole_no_fault limits (HoldsHead limits) (heads_sound limits) bytes n at fault head.0 head.1 head.2 shown
