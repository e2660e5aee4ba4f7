use Rattle.std.proofs.Common.{◌-◌, List, sym, subst}
use Rattle.jpg_spec.specs.declared.frame.Place.{Place}
use Rattle.jpg_prog_read.specs.RepresentsAcScan.{IsBetweenUnits}
use Rattle.jpg_prog_read.proofs.AcPassing.{next_passed}
use Rattle.jpg_prog_read.proofs.ac_reader.AcReader.pass_unit.Goals as goal

pub returns-clause-passes : goal.returns-clause-passes
returns-clause-passes c = λ i bits now empty w.
    let m = c.args.self.now in let n = c.pass_band.new.self in
    let C : List Place → Type 0 = λ l. IsBetweenUnits (record m { unit = n; cursor = l; left = m.left - 1 }) i bits now in
    subst C (sym c.step.ensures)
    (next_passed m n i bits now c.requires.some c.requires.ends.0 (record { some = c.requires.ends.1; last = c.pass_band.ensures.last; more = c.pass_band.ensures.more }) empty w)
