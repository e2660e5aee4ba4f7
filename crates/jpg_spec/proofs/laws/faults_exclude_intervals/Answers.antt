use Rattle.std.proofs.Common.{sym, ◌∙◌}
use Rattle.jpg_spec.proofs.Bits.Sound.{fault_excludes}
use Rattle.jpg_spec.proofs.laws.faults_exclude_intervals.Goals as goal

pub returns : goal.returns
returns c = λ coding units bits s d w. fault_excludes coding units d.fault w.told d.front w.front d.rest w.rest s d.shown w.spelled (sym d.cut ∙ w.cut)
