use Rattle.jpg_spec_write.proofs.FaultlessScripts.{sequential_without_fault, progressive_without_fault}
use Rattle.jpg_spec_write.proofs.script_laws.scripts_without_fault_pass.Goals as goal

pub returns-clause-sequential : goal.returns-clause-sequential
returns-clause-sequential c = λ f script is. sequential_without_fault f script is

pub returns-clause-progressive : goal.returns-clause-progressive
returns-clause-progressive c = λ H script is. progressive_without_fault H script is
