use Rattle.std.proofs.Common.{rules, ℤ, sym, subst}
use mir.Syntax.{w16}
use Rattle.std.proofs.lemmas.Int.{to_z-of_z}
use Rattle.jpg_huff.specs.Tables.{symbol_codes}
use Rattle.jpg_prog_read.specs.RepresentsDcUnit.{AnswersDcBit}
use Rattle.jpg_prog_read.specs.DcFirstPass.{prediction_at}
use Rattle.jpg_prog_read.proofs.dc_first.DcFirst.unit_bit.Goals as goal

pub returns-in-Some-clause-reads : goal.returns-in-Some-clause-reads
returns-in-Some-clause-reads c =
    let m = c.args.self.now in
    let z = prediction_at m c.args.component in
    let T : ℤ → Type 0 = λ q. AnswersDcBit m.scan (symbol_codes c.in-Some.table.now) q m.unit c.args.bit c.bit.result c.bit.new.self in
    (c.in-Some.table.now, sym c.in-Some.ensures, subst T (to_z-of_z w16 z (search rules)) c.bit.ensures.answered)
