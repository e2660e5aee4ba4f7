use Rattle.jpg_spec_image.proofs.Fronts.{fault_of_front}
use Rattle.jpg_spec_image.proofs.front_laws.faults_of_files_are_those_of_their_front.Goals as goal

pub returns : goal.returns
returns c = fault_of_front
