use Rattle.std.proofs.Common.{rules, sym, subst}
use mir.Syntax.{w16}
use Rattle.std.proofs.lemmas.Int.{to_z-of_z}
use Rattle.jpg_prog_read.specs.InWork.{InWork}
use Rattle.jpg_prog_read.specs.Stands.{RepresentsBandUnit}
use Rattle.jpg_prog_read.proofs.BandSteps.{value_begun}
use Rattle.jpg_prog_read.proofs.band.BandReader.number.Goals as goal

pub returns-clause-answered : goal.returns-clause-answered
returns-clause-answered c = λ ac at bits k f.
    let new = rw (to_z-of_z w16 c.whole_number-value.result (search rules)) at c.begin_value.ensures in
    c.advance.ensures.answered ac at bits k
    (subst (λ (n : InWork). RepresentsBandUnit at bits n) (sym new) (value_begun f c.whole_number-value.result c.requires.stage c.whole_number-value.ensures.category c.whole_number-value.ensures.extra))
