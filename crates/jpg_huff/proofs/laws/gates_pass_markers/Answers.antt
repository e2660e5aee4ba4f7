use Rattle.jpg_huff.proofs.Gates.{feeds_marker}
use Rattle.jpg_huff.proofs.laws.gates_pass_markers.Goals as goal

pub returns : goal.returns
returns c = λ fill code z f answers new h. feeds_marker fill code answers new z f h
