use Rattle.jpg_spec_upright.proofs.Marked.{marked_again, marked_one}
use Rattle.jpg_spec_upright.proofs.upright_laws.marked_segments_are_upright.Goals as goal

pub returns-clause-one : goal.returns-clause-one
returns-clause-one c = λ kept. marked_one kept

pub returns-clause-again : goal.returns-clause-again
returns-clause-again c = λ kept. marked_again kept
