use Rattle.jpg_spec_move.proofs.MovedBounds.{moved_in}
use Rattle.jpg_spec_move.proofs.transform_laws.moved_blocks_can_be_written.Goals as goal

pub returns : goal.returns
returns c = λ r a b over block h. moved_in r a b over block h
