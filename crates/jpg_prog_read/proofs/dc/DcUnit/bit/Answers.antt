use Rattle.std.proofs.Common.{rules}
use mir.Syntax.{w16}
use Rattle.std.proofs.lemmas.Int.{to_z-of_z}
use Rattle.jpg_huff.specs.Tables.{symbol_codes}
use Rattle.jpg_prog_read.proofs.dc.DcUnit.bit.Goals as goal

pub returns-in-Number-clause-answered : goal.returns-in-Number-clause-answered
returns-in-Number-clause-answered c = λ at p o bits k q f.
    let e = to_z-of_z w16 c.args.prediction (search rules) in
    (rw e at c.number_bit.ensures.answered) (symbol_codes c.args.table.now) at p o bits k q f
