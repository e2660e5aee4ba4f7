use Rattle.jpg_huff.proofs.OneAnswer as one
use Rattle.jpg_huff.specs.Tables.{symbol_codes}
use Rattle.jpg_huff.proofs.Tables.{apart}
use Rattle.jpg_huff.proofs.laws.one_answer.Goals as goal

pub returns : goal.returns
returns c = λ t bits new other step step' a b. one.one_answer (symbol_codes t) bits new other step step' (apart t) a b
