use Rattle.jpg_huff.proofs.Putting.{code_number, number_fits, all_bits}
use Rattle.jpg_huff.proofs.out.joined.Goals as goal

pub returns-clause-bits : goal.returns-clause-bits
returns-clause-bits c =
    let w = c.args.code in
    all_bits w.bits w.length c.args.size c.args.extra _ c.requires.extra.1 (code_number w.bits w.length c.args.size c.args.extra c.from.result c.requires.code.0 c.requires.code.1 c.requires.extra.0 c.from.ensures)

pub returns-clause-fits : goal.returns-clause-fits
returns-clause-fits c =
    let w = c.args.code in
    number_fits w.bits w.length c.args.size c.args.extra _ c.requires.code.1 c.requires.extra.1 (code_number w.bits w.length c.args.size c.args.extra c.from.result c.requires.code.0 c.requires.code.1 c.requires.extra.0 c.from.ensures)

pub returns-clause-number : goal.returns-clause-number
returns-clause-number c =
    let w = c.args.code in
    code_number w.bits w.length c.args.size c.args.extra c.from.result c.requires.code.0 c.requires.code.1 c.requires.extra.0 c.from.ensures
