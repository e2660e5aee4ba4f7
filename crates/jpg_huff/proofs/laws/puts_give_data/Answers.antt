use Rattle.jpg_huff.proofs.Together.{puts_pad}
use Rattle.jpg_huff.proofs.laws.puts_give_data.Goals as goal

pub returns : goal.returns
returns c = λ s0 s1 old mid xs none h s2 new r k. puts_pad s0 s1 s2 old mid new xs r none h k
