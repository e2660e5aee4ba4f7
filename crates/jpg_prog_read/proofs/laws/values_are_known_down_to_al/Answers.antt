use Rattle.jpg_spec.specs.Elements.{at_start}
use Rattle.jpg_prog_read.proofs.Multiples.{covers_multiples}
use Rattle.jpg_prog_read.proofs.laws.values_are_known_down_to_al.Goals as goal

pub returns : goal.returns
returns c = λ d units told bits h s. covers_multiples d (at_start units) s.1 s.0 told bits h s.2
