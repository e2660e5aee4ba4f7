use Rattle.std.proofs.Common.{◌≡◌, ◌+◌, ◌-◌, ◌<◌, ◌^◌, ap, ◌∙◌, arith, rules}
use Rattle.std.specs.Int.{bit_at}
use Rattle.jpg_prog_write.proofs.Zeros.{marked_zero, no_value}
use Rattle.jpg_prog_write.proofs.bands.zeros_ahead.Goals as goal

pub returns-clause-zeros : goal.returns-clause-zeros
returns-clause-zeros c = λ k low high.
    let small : c.args.part.marks < 2 ^ 64 = search rules in
    let e : k ≡ c.args.at + (k - c.args.at) = omega (arith, low) in
    no_value _ (bit_at c.args.part.marks k) (c.requires.marks k (omega arith)) (ap (bit_at c.args.part.marks) e ∙ marked_zero c.args.part.marks c.args.at (k - c.args.at) small (omega arith))
