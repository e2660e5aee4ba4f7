use Rattle.jpg_spec_upright.proofs.TurnedUpright.{shown_alike, upright_again}
use Rattle.jpg_spec_upright.proofs.upright_laws.pictures_turned_upright_are_displayed_alike.Goals as goal

pub returns-clause-shown : goal.returns-clause-shown
returns-clause-shown c = λ choice M n. shown_alike choice M n

pub returns-clause-again : goal.returns-clause-again
returns-clause-again c = λ first second M n. upright_again first second M n
