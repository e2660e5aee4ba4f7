use Rattle.jpg_spec_move.proofs.Transforming.{undone}
use Rattle.jpg_spec_move.proofs.transform_laws.transforms_are_undone.Goals as goal

pub returns : goal.returns
returns c = λ M t w. undone M t w
