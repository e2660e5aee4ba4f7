use Rattle.std.proofs.Common.{sym, subst, []}
use Rattle.jpg_prog_read.specs.InWork.{InWork, IsOpenBand}
use Rattle.jpg_prog_read.specs.Stands.{RepresentsBandUnit}
use Rattle.jpg_prog_read.proofs.BandSteps.{code_none}
use Rattle.jpg_prog_read.proofs.Reading.{more_read, walked_is}
use Rattle.jpg_prog_read.proofs.BandBits.{walked_open, walked_back}
use Rattle.jpg_prog_read.proofs.band.BandReader.code_bit.Goals as goal

pub returns-in-More-clause-answered : goal.returns-in-More-clause-answered
returns-in-More-clause-answered c = λ left.
    more_read c.args.scan.now c.args.codes.now left c.args.self.now c.walk_bit.new.self c.args.bit c.requires.stage c.in-More.ensures.same c.in-More.ensures.answers.0 c.in-More.ensures.answers.1

pub returns-in-NoCode-clause-answered : goal.returns-in-NoCode-clause-answered
returns-in-NoCode-clause-answered c = λ left at bits k l f. code_none f c.args.bit k c.requires.stage c.in-NoCode.ensures.answers.0

pub symbol-requires-clause-open : goal.symbol-requires-clause-open
symbol-requires-clause-open c =
    subst (λ (s : InWork). IsOpenBand c.args.scan.now s) (sym (walked_is c.args.self.now c.walk_bit.new.self [] c.in-Symbol.ensures.same c.in-Symbol.ensures.answers.1)) (walked_open c.args.scan.now c.args.self.now [] c.requires.stage c.requires.open)

pub returns-in-Symbol-clause-answered : goal.returns-in-Symbol-clause-answered
returns-in-Symbol-clause-answered c = λ left at bits k l f.
    c.symbol.ensures.answered c.args.codes.now at bits c.args.self.now.walked c.args.bit k c.in-Symbol.ensures.answers.0
    (subst (λ (s : InWork). RepresentsBandUnit at bits s) (sym (walked_back c.args.self.now c.walk_bit.new.self c.in-Symbol.ensures.same)) f)
