use Rattle.jpg_spec.proofs.Segments.Reached.{ended_first}
use Rattle.jpg_spec.proofs.marker_laws.nothing_is_after_eoi.Goals as goal

pub returns : goal.returns
returns c = λ rule front rest b x s t. ended_first rule front rest b x s t
