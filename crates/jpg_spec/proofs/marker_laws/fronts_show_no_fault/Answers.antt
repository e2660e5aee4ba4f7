use Rattle.jpg_spec.proofs.Segments.Reached.{fronts_clean}
use Rattle.jpg_spec.proofs.marker_laws.fronts_show_no_fault.Goals as goal

pub returns : goal.returns
returns c = λ rule bytes x s f n h t. fronts_clean rule bytes x f n s h t
