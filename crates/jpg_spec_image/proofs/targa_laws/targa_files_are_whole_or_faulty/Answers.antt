use Rattle.jpg_spec_image.proofs.OneTarga.{never_both, one_of_two}
use Rattle.jpg_spec_image.proofs.targa_laws.targa_files_are_whole_or_faulty.Goals as goal

pub returns-clause-one_of_them : goal.returns-clause-one_of_them
returns-clause-one_of_them c = one_of_two

pub returns-clause-never_both : goal.returns-clause-never_both
returns-clause-never_both c = λ bytes i f. never_both bytes i.0 f.0 f.1 i.1 f.2
