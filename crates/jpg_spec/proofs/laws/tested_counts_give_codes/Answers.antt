use Rattle.jpg_spec.proofs.Bits.Sound.{tested_codes}
use Rattle.jpg_spec.proofs.laws.tested_counts_give_codes.Goals as goal

pub returns : goal.returns
returns c = λ counts e. tested_codes 1 0 counts e
