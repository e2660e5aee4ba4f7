use Rattle.std.proofs.Common.{◌<◌, ◌^◌, arith, rules}
use Rattle.jpg_prog_write.proofs.Zeros.{no_bit, no_value}
use Rattle.jpg_prog_write.proofs.band.Band.zeros_from.Goals as goal

pub returns-clause-zeros : goal.returns-clause-zeros
returns-clause-zeros c = λ k low high.
    let small : c.nonzero.result < 2 ^ 64 = search rules in
    no_value _ _ (c.nonzero.ensures k (omega (arith, high, c.requires.band.most))) (no_bit c.nonzero.result c.args.self.start k small (omega (arith, low, high, c.min.ensures)))
