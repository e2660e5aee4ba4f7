use Rattle.std.proofs.Common.{sym, subst, ◌++◌}
use Rattle.jpg_prog_read.specs.InWork.{InWork}
use Rattle.jpg_prog_read.specs.Stands.{BetweenUnits}
use Rattle.jpg_prog_read.proofs.Passing.{ends_ended, ends_go_on}
use Rattle.jpg_prog_read.proofs.band.BandReader.leave.Goals as goal

pub returns-in-All-clause-answered : goal.returns-in-All-clause-answered
returns-in-All-clause-answered c = λ at bits f.
    subst (λ (n : InWork). BetweenUnits at.coding at.units (at.told ++ n.done) at.others bits n) (sym c.in-All.ensures.1) (ends_ended f c.requires.stage.0 c.requires.end c.in-All.ensures.0)

pub returns-in-Some-clause-answered : goal.returns-in-Some-clause-answered
returns-in-Some-clause-answered c = λ at bits f.
    subst (λ (n : InWork). BetweenUnits at.coding at.units (at.told ++ n.done) at.others bits n) (sym c.in-Some.ensures.1) (ends_go_on f c.requires.stage.0 c.requires.end c.in-Some.ensures.0)
