use Rattle.jpg_spec.proofs.Segments.Reached.{reached_once}
use Rattle.jpg_spec.proofs.marker_laws.segments_reach_one_thing.Goals as goal

pub returns : goal.returns
returns c = λ rule bytes x y s t. reached_once rule bytes x y s t
