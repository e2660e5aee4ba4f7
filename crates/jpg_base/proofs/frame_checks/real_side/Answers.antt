use Rattle.jpg_spec.proofs.Places.PlacesFound.{real_in_padded}
use Rattle.jpg_base.proofs.Real.{one_real}
use Rattle.jpg_base.proofs.frame_checks.real_side.Goals as goal

pub returns-clause-low : goal.returns-clause-low
returns-clause-low c = λ side factor.
    rw (c.div_up-2.ensures.value, c.div_up.ensures.value, c.from.ensures, c.from-2.ensures) (one_real c.args.side c.args.factor c.args.greatest c.requires.low side factor)

pub returns-clause-padded : goal.returns-clause-padded
returns-clause-padded c =
    rw (c.div_up-2.ensures.value, c.div_up.ensures.value, c.from.ensures, c.from-2.ensures) (real_in_padded c.args.side c.args.factor c.args.greatest c.requires.low)
