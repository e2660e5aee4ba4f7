use Rattle.std.proofs.Common.{◌*◌, arith}
use Rattle.jpg_base.proofs.frame_checks.mcu_side.Goals as goal
use Rattle.jpg_spec.proofs.Places.PlacesSome.{one_at_least}

pub returns-clause-low : goal.returns-clause-low
returns-clause-low c = λ some. rw (c.div_up.ensures.value, c.from.ensures) (one_at_least c.args.side (8 * c.args.greatest) (omega (arith, c.requires.low)) some)
