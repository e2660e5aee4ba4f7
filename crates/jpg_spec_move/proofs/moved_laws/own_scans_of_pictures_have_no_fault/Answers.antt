use Rattle.jpg_spec_move.proofs.MovedText.{own_fault}
use Rattle.jpg_spec_move.proofs.MeaningLeft.{read_moved}
use Rattle.jpg_spec_move.proofs.moved_laws.own_scans_of_pictures_have_no_fault.Goals as goal

pub returns : goal.returns
returns c = λ choice M is own. own_fault choice M (read_moved M choice is) own
