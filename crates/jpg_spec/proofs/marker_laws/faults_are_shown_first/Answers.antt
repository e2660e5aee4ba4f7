use Rattle.jpg_spec.proofs.Segments.Reached.{shown_first}
use Rattle.jpg_spec.proofs.marker_laws.faults_are_shown_first.Goals as goal

pub returns : goal.returns
returns c = λ rule front rest b x f s t. shown_first rule front rest b x f s t
