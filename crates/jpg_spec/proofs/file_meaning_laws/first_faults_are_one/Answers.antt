use Rattle.jpg_spec.proofs.Files.FileLaws.{means_no_fault, early_no_fault, first_fault_once}
use Rattle.jpg_spec.proofs.file_meaning_laws.first_faults_are_one.Goals as goal

pub returns-clause-never_both : goal.returns-clause-never_both
returns-clause-never_both c = λ limits bytes fault n w k. means_no_fault limits bytes w.0 fault n w.1 k

pub returns-clause-early : goal.returns-clause-early
returns-clause-early c = λ limits bytes fault n w k. early_no_fault limits bytes fault n w k

pub returns-clause-one : goal.returns-clause-one
returns-clause-one c = λ limits bytes f g m n a b. first_fault_once limits bytes f g m n a b
