use Rattle.jpg_spec_upright.proofs.Displayed.{displayed_there}
use Rattle.jpg_spec_upright.proofs.upright_laws.blocks_are_displayed_at_their_sides.Goals as goal

pub returns : goal.returns
returns c = λ orientation M i x y d. displayed_there orientation M i x y d
