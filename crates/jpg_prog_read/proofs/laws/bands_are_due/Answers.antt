use Rattle.jpg_prog_read.proofs.Due.{band_due, next_due}
use Rattle.jpg_prog_read.proofs.laws.bands_are_due.Goals as goal

pub returns-clause-inside : goal.returns-clause-inside
returns-clause-inside c = band_due

pub returns-clause-between : goal.returns-clause-between
returns-clause-between c = next_due
