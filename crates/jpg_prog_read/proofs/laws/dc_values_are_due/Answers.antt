use Rattle.jpg_prog_read.proofs.Due.{dc_due, dc_next_due}
use Rattle.jpg_prog_read.proofs.laws.dc_values_are_due.Goals as goal

pub returns-clause-inside : goal.returns-clause-inside
returns-clause-inside c = dc_due

pub returns-clause-between : goal.returns-clause-between
returns-clause-between c = dc_next_due
