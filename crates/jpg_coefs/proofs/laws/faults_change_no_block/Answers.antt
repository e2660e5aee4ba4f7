use Rattle.jpg_coefs.proofs.Chains.{still_at_faults}
use Rattle.jpg_coefs.proofs.laws.faults_change_no_block.Goals as goal

pub returns : goal.returns
returns g c = still_at_faults g.M.ScanMachine.kind
