use Rattle.jpg_spec_move.proofs.MovedBack.{moved_back}
use Rattle.jpg_spec_move.proofs.transform_laws.pictures_are_moved_back.Goals as goal

pub returns : goal.returns
returns c = λ M N t choice w undoes. moved_back N M t choice w.whole undoes w.same
