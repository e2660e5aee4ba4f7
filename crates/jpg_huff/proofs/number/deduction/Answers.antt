use Rattle.std.proofs.Common.{rules, ◌-◌, ◌*◌, ◌/◌, ◌%◌, ◌^◌, ◌<◌}
use Rattle.jpg_huff.proofs.Categories.{kept_or_not}
use Rattle.jpg_huff.proofs.number.deduction.Goals as goal

pub returns-clause-fits : goal.returns-clause-fits
returns-clause-fits c =
    let ones : 1 * 2 ^ c.args.size % 4294967296 - 1 < 32768 = search rules in
    kept_or_not (1 * 2 ^ c.args.size % 4294967296 - 1) (2 * c.args.bits / 2 ^ c.args.size) ones
