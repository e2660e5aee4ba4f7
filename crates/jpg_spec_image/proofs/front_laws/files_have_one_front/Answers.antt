use Rattle.jpg_spec_image.proofs.Fronts.{one_front, own_front}
use Rattle.jpg_spec_image.proofs.front_laws.files_have_one_front.Goals as goal

pub returns-clause-one : goal.returns-clause-one
returns-clause-one c = one_front

pub returns-clause-itself : goal.returns-clause-itself
returns-clause-itself c = own_front
