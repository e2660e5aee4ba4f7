use Rattle.jpg_prog_read.proofs.DcMachines.{first_keeps_units, refine_keeps_units}
use Rattle.jpg_prog_read.proofs.dc_laws.dc_machines_keep_units.Goals as goal

pub returns-clause-first : goal.returns-clause-first
returns-clause-first c = first_keeps_units

pub returns-clause-later : goal.returns-clause-later
returns-clause-later c = refine_keeps_units
