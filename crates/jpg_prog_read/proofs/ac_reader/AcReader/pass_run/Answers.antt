use Rattle.std.proofs.Common.{◌∙◌, ◌-◌, drop, List, ℕ, sym, subst}
use Rattle.jpg_spec.specs.declared.frame.Place.{Place}
use Rattle.jpg_prog_read.specs.RepresentsAcScan.{IsBetweenUnits}
use Rattle.jpg_prog_read.specs.declared.stage.Stage.TheVariants as stage
use Rattle.jpg_prog_read.specs.InWork.{InWork}
use Rattle.jpg_prog_read.proofs.AcPassing.{run_passed}
use Rattle.jpg_prog_read.proofs.ac_reader.AcReader.pass_run.Goals as goal

pub returns-clause-passes : goal.returns-clause-passes
returns-clause-passes c = λ now i bits w.
    let m = c.args.self.now in let n : InWork = record (m.unit) { bands = 0; stage = stage.Code } in
    let U : InWork → Type 0 = λ u. IsBetweenUnits (record m { unit = u; cursor = c.skip.new.self; left = m.left - c.from.result }) i bits now in
    let C : List Place → Type 0 = λ l. IsBetweenUnits (record m { unit = n; cursor = l; left = m.left - c.from.result }) i bits now in
    let B : ℕ → Type 0 = λ k. IsBetweenUnits (record m { unit = n; cursor = drop k m.cursor; left = m.left - c.from.result }) i bits now in
    let L : ℕ → Type 0 = λ k. IsBetweenUnits (record m { unit = n; cursor = drop m.unit.bands m.cursor; left = m.left - k }) i bits now in
    let count = c.end_run-bands.ensures.count in
    subst U (sym c.end_run-bands.ensures.new)
    (subst C (sym c.skip.ensures) (subst B (sym count) (subst L (sym (c.from.ensures ∙ count)) (run_passed m i bits now c.requires.ends c.requires.first w))))
