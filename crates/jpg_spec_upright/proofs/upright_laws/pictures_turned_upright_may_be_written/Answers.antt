use Rattle.jpg_spec_upright.proofs.MarkedWritten.{upright_means}
use Rattle.jpg_spec_upright.proofs.upright_laws.pictures_turned_upright_may_be_written.Goals as goal

pub returns : goal.returns
returns c = λ upright choice M bytes is. upright_means upright choice M bytes is
