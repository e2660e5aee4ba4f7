use Rattle.std.proofs.Common.{◌++◌, ap, ◌∙◌, List, Bool, arith}
use Rattle.jpg_base.proofs.BitsAt.{bit_bits, bit_small}
use Rattle.jpg_base.proofs.store.BitStore.push_bit.Goals as goal

pub append-requires-clause-fits : goal.append-requires-clause-fits
append-requires-clause-fits c = omega (arith, c.from.ensures, bit_small c.args.bit)

pub returns : goal.returns
returns c = c.append.ensures ∙ ap (λ (x : List Bool). c.args.self.now ++ x) (bit_bits c.args.bit c.from.result c.from.ensures)
