use Rattle.jpg_spec_move.proofs.Transforming.{by_formula}
use Rattle.jpg_spec_move.proofs.transform_laws.one_formula_tells_all_blocks.Goals as goal

pub returns : goal.returns
returns c = λ M t i x y w. by_formula M t w i x y
