use Rattle.jpg_comments.specs.Printing.{HoldsWhole}
use Rattle.jpg_comments.proofs.OneAnswer.{reading_sound, whole_no_fault}
use Rattle.jpg_comments.proofs.laws.whole_files_have_no_fault.Goals as goal

pub returns : goal.returns
returns c = λ limits bytes n at fault whole shown. whole_no_fault limits (HoldsWhole limits) (reading_sound limits) bytes n at fault whole.0 whole.1 whole.2 shown
