use Rattle.jpg_prog_read.proofs.Known.{known_refinable}
use Rattle.jpg_prog_read.proofs.laws.known_values_take_the_next_bit.Goals as goal

pub returns : goal.returns
returns c = λ al category le m n e h. known_refinable m al category n le e h
