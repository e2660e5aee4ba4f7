use Rattle.std.proofs.Common.{sym, subst, ◌++◌}
use Rattle.jpg_prog_read.specs.InWork.{InWork}
use Rattle.jpg_prog_read.specs.Stands.{BetweenUnits}
use Rattle.jpg_prog_read.proofs.Passing.{old_opened, zero_in, ends_run, long_ended, value_not_ended}
use Rattle.jpg_prog_read.proofs.band.BandReader.advance.Goals as goal

pub place-requires-clause-fits : goal.place-requires-clause-fits
place-requires-clause-fits c = c.in-AtZero.ensures.same.fits c.args.scan.now c.requires.moving.fits

pub returns-in-AtOld-clause-open : goal.returns-in-AtOld-clause-open
returns-in-AtOld-clause-open c =
    let a = c.in-AtOld.ensures.at in
    old_opened c.args.scan.now c.args.self.now c.skip.new.self a.1.0 c.in-AtOld.ensures.same c.requires.moving.fits c.requires.moving.passing a.0 a.1.1 a.1.2

pub returns-in-Long-clause-open : goal.returns-in-Long-clause-open
returns-in-Long-clause-open c = c.pass_last.ensures.open c.args.scan.now (c.in-AtZero.ensures.same.fits c.args.scan.now c.requires.moving.fits)

pub returns-in-Ends-clause-answered : goal.returns-in-Ends-clause-answered
returns-in-Ends-clause-answered c = λ ac at bits k f.
    absurd (ends_run (c.in-AtZero.ensures.stands at bits (zero_in at.coding c.args.scan.now.most_magnitude k.bounds) f) (sym c.in-Ends.ensures) c.in-AtZero.ensures.at.1)

pub returns-in-Long-stage-clause-answered : goal.returns-in-Long-stage-clause-answered
returns-in-Long-stage-clause-answered c = λ ac at bits k f.
    subst (λ (n : InWork). BetweenUnits at.coding at.units (at.told ++ n.done) at.others bits n) (sym c.end_element.ensures)
    (long_ended (c.in-AtEnd.ensures.stands at bits (zero_in at.coding c.args.scan.now.most_magnitude k.bounds) f) (sym c.in-Long-stage.ensures) c.in-AtEnd.ensures.at)

pub returns-in-Value-stage-clause-answered : goal.returns-in-Value-stage-clause-answered
returns-in-Value-stage-clause-answered c = λ ac at bits k f.
    absurd (value_not_ended (c.in-AtEnd.ensures.stands at bits (zero_in at.coding c.args.scan.now.most_magnitude k.bounds) f) (sym c.in-Value-stage.ensures) c.in-AtEnd.ensures.at)

pub returns-in-Ends-clause-ends : goal.returns-in-Ends-clause-ends
returns-in-Ends-clause-ends c = λ ac at bits k f e.
    ends_run (c.in-AtZero.ensures.stands at bits (zero_in at.coding c.args.scan.now.most_magnitude k.bounds) f) (sym c.in-Ends.ensures) c.in-AtZero.ensures.at.1
