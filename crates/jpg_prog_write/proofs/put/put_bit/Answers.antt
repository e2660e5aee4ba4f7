use Rattle.std.proofs.Common.{◌∷◌, [], sym, ap}
use Rattle.jpg_spec.specs.Bits.{bits_of}
use Rattle.jpg_huff.proofs.Together.{puts_same}
use Rattle.jpg_prog_write.proofs.put.put_bit.Goals as goal

pub returns-then-bit : goal.returns-then-bit
unfolding bits_of
returns-then-bit g c = puts_same _ _ _ _ (bits_of 1 1) _ _ (ap (λ b. b ∷ []) (sym c.if-bit.true)) c.put.ensures

pub returns-else-bit : goal.returns-else-bit
unfolding bits_of
returns-else-bit g c = puts_same _ _ _ _ (bits_of 1 0) _ _ (ap (λ b. b ∷ []) (sym c.if-bit.false)) c.put-else-bit.ensures
