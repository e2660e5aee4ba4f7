use Rattle.jpg_spec.proofs.Headers.HeaderFirst.{header_first}
use Rattle.jpg_spec.proofs.header_laws.header_faults_are_first_faults.Goals as goal

pub returns : goal.returns
returns c = λ limits bytes fault n w within. header_first limits bytes fault n w.within within w.shown
