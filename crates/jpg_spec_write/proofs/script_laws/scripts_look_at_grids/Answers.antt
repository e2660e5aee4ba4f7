use Rattle.jpg_spec_write.proofs.ScriptGrids.{same_sequential, same_standard, same_script_fault}
use Rattle.jpg_spec_write.proofs.script_laws.scripts_look_at_grids.Goals as goal

pub returns-clause-sequential : goal.returns-clause-sequential
returns-clause-sequential c = same_sequential

pub returns-clause-standard : goal.returns-clause-standard
returns-clause-standard c = same_standard

pub returns-clause-fault : goal.returns-clause-fault
returns-clause-fault c = same_script_fault
