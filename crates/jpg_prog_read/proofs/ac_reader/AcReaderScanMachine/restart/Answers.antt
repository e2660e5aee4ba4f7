use Rattle.jpg_prog_read.proofs.AcUnits.{begins}
use Rattle.jpg_prog_read.proofs.ac_reader.AcReaderScanMachine.restart.Goals as goal

pub returns-clause-begun : goal.returns-clause-begun
returns-clause-begun c = λ i ready count. begins c.args.self.now c.new-self.result i c.args.units ready count c.requires.some c.new-self.ensures
