use Rattle.jpg_prog_read.proofs.AcUnits.{unit_read}
use Rattle.jpg_prog_read.proofs.ac_reader.AcReader.unit_bit.Goals as goal

pub returns : goal.returns
returns c = λ i bits now u. unit_read c.args.self.now c.bit.new.self i bits c.args.bit now c.bit.result u c.bit.ensures.open c.bit.ensures.outside c.bit.ensures.answered
