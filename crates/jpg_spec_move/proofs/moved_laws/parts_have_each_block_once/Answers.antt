use Rattle.jpg_spec_move.proofs.CutApart.{are_parts}
use Rattle.jpg_spec_move.proofs.moved_laws.parts_have_each_block_once.Goals as goal

pub returns : goal.returns
returns c = are_parts
