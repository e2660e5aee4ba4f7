use Rattle.jpg_prog_read.proofs.band.BandReader.bit.Goals as goal

pub returns-in-Number-clause-answered : goal.returns-in-Number-clause-answered
returns-in-Number-clause-answered c = λ at bits k l f. c.number_bit.ensures.answered c.args.codes.now c.args.left at bits k l f

pub returns-in-Count-clause-answered : goal.returns-in-Count-clause-answered
returns-in-Count-clause-answered c = λ at bits k l f. c.count_bit.ensures.answered c.args.codes.now at bits k l f

pub returns-in-Value-clause-answered : goal.returns-in-Value-clause-answered
returns-in-Value-clause-answered c = λ at bits k l f. c.correction_bit.ensures.answered c.args.codes.now c.args.left at bits k l f

pub returns-in-Long-clause-answered : goal.returns-in-Long-clause-answered
returns-in-Long-clause-answered c = λ at bits k l f. c.correction_bit-in-Long.ensures.answered c.args.codes.now c.args.left at bits k l f

pub returns-in-Ends-clause-answered : goal.returns-in-Ends-clause-answered
returns-in-Ends-clause-answered c = λ at bits k l f. c.correction_bit-in-Ends.ensures.answered c.args.codes.now c.args.left at bits k l f
