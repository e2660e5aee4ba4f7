use Rattle.jpg_huff.proofs.Together.{puts_then}
use Rattle.jpg_huff.proofs.laws.puts_follow.Goals as goal

pub returns : goal.returns
returns c = λ s0 s1 old mid xs h s2 new ys r k. puts_then s0 s1 s2 old mid new xs ys r h k
