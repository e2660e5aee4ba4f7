use Rattle.std.proofs.Common.{◌∙◌, sym}
use Rattle.jpg_scans.proofs.progress.Progress.admit.Goals as goal

pub returns-in-None-clause-exact : goal.returns-in-None-clause-exact
returns-in-None-clause-exact c = λ f heads s. (sym (c.fault.ensures f heads s) ∙ c.in-None.is, c.note.ensures f heads s)
