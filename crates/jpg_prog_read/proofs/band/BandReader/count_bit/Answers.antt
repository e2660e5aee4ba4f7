use Rattle.std.proofs.Common.{sym, subst, arith, ◌∷◌, [], ◌++◌}
use Rattle.jpg_prog_read.specs.InWork.{InWork}
use Rattle.jpg_prog_read.specs.Stands.{RepresentsBandUnit}
use Rattle.jpg_prog_read.proofs.BandSteps.{count_more}
use Rattle.jpg_prog_read.proofs.Reading.{ends_read, past_read}
use Rattle.jpg_prog_read.proofs.band.BandReader.count_bit.Goals as goal

pub returns-in-Wanting-clause-answered : goal.returns-in-Wanting-clause-answered
returns-in-Wanting-clause-answered c = λ ac at bits k l f.
    subst (λ (n : InWork). RepresentsBandUnit at (bits ++ c.args.bit ∷ []) n) (sym c.in-Wanting.ensures.new) (count_more f c.args.bit c.requires.stage)

pub returns-then-from-left-clause-answered : goal.returns-then-from-left-clause-answered
returns-then-from-left-clause-answered c = λ ac.
    past_read c.args.scan.now ac c.args.left c.args.self.now c.extra_bit.new.self c.args.bit c.whole_count-bands.result c.requires.stage c.in-Enough.ensures.new
    c.whole_count-bands.ensures.some c.whole_count-bands.ensures.digits c.whole_count-bands.ensures.extra (omega (arith, c.if-from-left.true))

pub returns-else-from-left-clause-answered : goal.returns-else-from-left-clause-answered
returns-else-from-left-clause-answered c = λ ac at bits k l f.
    c.advance.ensures.answered ac at (bits ++ c.args.bit ∷ []) k
    (ends_read c.args.scan.now ac c.args.left c.args.self.now c.extra_bit.new.self c.begin_ends.new.self c.args.bit c.whole_count-bands.result c.requires.stage c.in-Enough.ensures.new
    c.whole_count-bands.ensures.some c.whole_count-bands.ensures.digits c.whole_count-bands.ensures.extra (omega (arith, c.if-from-left.false)) c.begin_ends.ensures.small c.begin_ends.ensures.new at bits k l f)
