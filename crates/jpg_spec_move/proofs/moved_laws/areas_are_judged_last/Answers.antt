use Rattle.jpg_spec_move.proofs.CroppedScripts.{judged_last, script_judged}
use Rattle.jpg_spec_move.proofs.moved_laws.areas_are_judged_last.Goals as goal

pub returns-clause-script : goal.returns-clause-script
returns-clause-script c = script_judged

pub returns-clause-fault : goal.returns-clause-fault
returns-clause-fault c = judged_last
