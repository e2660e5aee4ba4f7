use Rattle.jpg_spec.proofs.Segments.Reached.{least}
use Rattle.jpg_spec.proofs.marker_laws.shown_faults_are_least.Goals as goal

pub returns : goal.returns
returns c = λ rule bytes f s. least rule bytes f s
