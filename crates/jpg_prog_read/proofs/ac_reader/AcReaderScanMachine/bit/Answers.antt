use Rattle.std.proofs.Common.{inr, refl, [], ◌∷◌, ◌++◌}
use Rattle.jpg_prog_read.proofs.ac_reader.AcReaderScanMachine.bit.Goals as goal

pub unit_bit-requires : goal.unit_bit-requires
unit_bit-requires c = (c.requires.open.0, c.requires.open.1, c.args.coefs.now, c.settle.ensures.settles c.requires.open.0 c.requires.open.1 c.requires.open.2)

pub go_on-requires : goal.go_on-requires
go_on-requires c = (c.requires.open.0, c.requires.open.1 ++ c.args.bit ∷ [], c.in-Done.ensures c.requires.open.0 c.requires.open.1 c.args.coefs.now (c.settle.ensures.settles c.requires.open.0 c.requires.open.1 c.requires.open.2))

pub returns-in-More : goal.returns-in-More
returns-in-More c = λ i bits s. inr (c.in-More.ensures i bits c.args.coefs.now (c.settle.ensures.settles i bits s))

pub returns-in-Fault : goal.returns-in-Fault
returns-in-Fault c = λ i bits s. (c.in-Fault.ensures i bits c.args.coefs.now (c.settle.ensures.settles i bits s), refl)

pub returns-in-Done : goal.returns-in-Done
returns-in-Done c = λ i bits s. c.go_on.ensures.goes i (bits ++ c.args.bit ∷ []) (c.in-Done.ensures i bits c.args.coefs.now (c.settle.ensures.settles i bits s))
