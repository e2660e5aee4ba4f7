use Rattle.std.proofs.Common.{◌∷◌, [], ◌++◌}
use Rattle.jpg_prog_read.proofs.BandSteps.{code_bad, code_bad_run}
use Rattle.jpg_prog_read.proofs.Reading.{number_read, count_read, number_opened, count_opened, long_read, end_read}
use Rattle.jpg_prog_read.proofs.band.BandReader.symbol.Goals as goal

pub returns-in-BadSymbol-clause-answered : goal.returns-in-BadSymbol-clause-answered
returns-in-BadSymbol-clause-answered c = λ ac at bits front last k is f. code_bad f last c.args.symbol k c.requires.stage is c.in-BadSymbol.ensures

pub returns-in-BadRun-clause-answered : goal.returns-in-BadRun-clause-answered
returns-in-BadRun-clause-answered c = λ ac at bits front last k is f.
    let z = c.zeros_left-zeros.ensures in
    let h = c.in-BadRun.ensures in
    code_bad_run f last c.args.symbol k c.requires.stage is (h.0, h.1, rw z at h.2)

pub returns-in-Value-clause-open : goal.returns-in-Value-clause-open
returns-in-Value-clause-open c = number_opened c.args.scan.now c.args.self.now c.begin.new.self c.in-Value.run' c.in-Value.size c.requires.open c.in-Value.ensures.1 c.begin.ensures

pub returns-in-Value-clause-answered : goal.returns-in-Value-clause-answered
returns-in-Value-clause-answered c =
    let z = c.zeros_left-zeros.ensures in
    let h = c.in-Value.ensures in
    number_read c.args.scan.now c.args.self.now c.begin.new.self c.args.symbol c.in-Value.run' c.in-Value.size c.requires.stage c.requires.walked h.0 h.1 h.2 h.4 (rw z at h.3) c.begin.ensures

pub returns-in-Count-clause-open : goal.returns-in-Count-clause-open
returns-in-Count-clause-open c =
    count_opened c.args.scan.now c.args.self.now c.begin-in-Count.new.self 0 c.in-Count.size c.requires.open c.in-Count.ensures.1 c.in-Count.ensures.2 c.begin-in-Count.ensures

pub returns-in-Count-clause-answered : goal.returns-in-Count-clause-answered
returns-in-Count-clause-answered c =
    count_read c.args.scan.now c.args.self.now c.begin-in-Count.new.self c.args.symbol 0 c.in-Count.size c.requires.stage c.requires.walked c.in-Count.ensures.0 c.in-Count.ensures.2 c.begin-in-Count.ensures

pub returns-in-Long-clause-answered : goal.returns-in-Long-clause-answered
returns-in-Long-clause-answered c = λ ac at bits front last k is f.
    c.advance.ensures.answered ac at (bits ++ last ∷ []) k
    (long_read c.args.scan.now c.args.self.now c.begin_long.new.self c.args.symbol c.requires.stage c.requires.walked c.in-Long.ensures c.begin_long.ensures ac at bits front last k is f)

pub returns-in-End-clause-answered : goal.returns-in-End-clause-answered
returns-in-End-clause-answered c = λ ac at bits front last k is f.
    c.advance-in-End.ensures.answered ac at (bits ++ last ∷ []) k
    (end_read c.args.scan.now c.args.self.now c.begin_ends.new.self c.args.symbol c.requires.stage c.requires.walked c.in-End.ensures c.begin_ends.ensures.small c.begin_ends.ensures.new ac at bits front last k is f)
