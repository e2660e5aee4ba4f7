use Rattle.jpg_prog_read.proofs.AcUnits.{before_of, first_taken}
use Rattle.jpg_prog_read.proofs.ac_reader.AcReader.settle.Goals as goal

pub returns-then-self-clause-settles : goal.returns-then-self-clause-settles
returns-then-self-clause-settles c = λ i bits s.
    let b = before_of c.args.self.now i bits c.args.coefs.now c.if-self.true s in
    first_taken c.take.new.self i bits c.args.coefs.now c.take.result (c.take.ensures.first b.code) (c.take.ensures.takes i bits b.between)
