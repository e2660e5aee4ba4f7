use Rattle.std.proofs.Common.{refl, lit≤, lit<}
use Rattle.jpg_prog_write.proofs.item.long_item.Goals as goal

pub returns : goal.returns
unfolding Rattle.jpg_spec.specs.Bits.bits_of
returns c = λ bits. record { band = refl; symbol = refl; bits = refl; small = lit< tt; short = lit≤ tt; fits = lit< tt }
