use Rattle.std.proofs.Common.{sym, subst, ◌∷◌, [], ◌++◌}
use Rattle.jpg_prog_read.specs.InWork.{InWork}
use Rattle.jpg_prog_read.specs.Stands.{RepresentsBandUnit}
use Rattle.jpg_prog_read.proofs.BandSteps.{number_more}
use Rattle.jpg_prog_read.proofs.band.BandReader.number_bit.Goals as goal

pub returns-in-Wanting-clause-answered : goal.returns-in-Wanting-clause-answered
returns-in-Wanting-clause-answered c = λ ac left at bits k l f.
    subst (λ (n : InWork). RepresentsBandUnit at (bits ++ c.args.bit ∷ []) n) (sym c.in-Wanting.ensures.new) (number_more f c.args.bit c.requires.stage)

pub returns-in-Enough-clause-answered : goal.returns-in-Enough-clause-answered
returns-in-Enough-clause-answered c = λ ac left at bits k l f.
    c.number.ensures.answered ac at (bits ++ c.args.bit ∷ []) k
    (subst (λ (n : InWork). RepresentsBandUnit at (bits ++ c.args.bit ∷ []) n) (sym c.in-Enough.ensures.new) (number_more f c.args.bit c.requires.stage))
