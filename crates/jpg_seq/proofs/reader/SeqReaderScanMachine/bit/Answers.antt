use Rattle.jpg_seq.specs.Reader.{sequential}
use Rattle.jpg_coefs.proofs.Chains.{bit_units, bit_done, bit_fault}
use Rattle.jpg_seq.proofs.reader.SeqReaderScanMachine.bit.Goals as goal

pub returns-in-Units : goal.returns-in-Units
returns-in-Units c = bit_units sequential 1 c.args.self.now c.args.coefs.now c.args.bit c.bits.new.store c.bits.new.self c.bits.new.coefs (rw (c.push_bit.ensures, c.new-store.ensures) at c.in-Units.ensures)

pub returns-in-IntervalDone : goal.returns-in-IntervalDone
returns-in-IntervalDone c = bit_done sequential 1 c.args.self.now c.args.coefs.now c.args.bit c.bits.new.store c.bits.new.self c.bits.new.coefs (rw (c.push_bit.ensures, c.new-store.ensures) at c.in-IntervalDone.ensures)

pub returns-in-Fault : goal.returns-in-Fault
returns-in-Fault c = bit_fault sequential 1 c.args.self.now c.args.coefs.now c.args.bit c.bits.new.store c.in-Fault.fault c.bits.new.self c.bits.new.coefs (rw (c.push_bit.ensures, c.new-store.ensures) at c.in-Fault.ensures)
