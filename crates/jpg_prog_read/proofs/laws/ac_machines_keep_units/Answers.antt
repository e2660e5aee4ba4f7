use Rattle.jpg_prog_read.proofs.AcDue.{keeps_units}
use Rattle.jpg_prog_read.proofs.laws.ac_machines_keep_units.Goals as goal

pub returns : goal.returns
returns c = keeps_units
