use Rattle.std.proofs.Common.{arith}
use Rattle.jpg_seq.proofs.Readings.{row_starts, row_can_read, row_can_put, row_empty, row_fault, row_interval, row_units, row_goes_on}
use Rattle.jpg_seq.proofs.reader.SeqReader.read.Goals as goal

pub loop-fault-init : goal.loop-fault-init
loop-fault-init c = row_starts c.args.most c.args.tops.now _ c.requires.some

pub unit_bits-requires : goal.unit_bits-requires
unit_bits-requires c = row_can_read c.loop-fault.invariant c.place-place.ensures c.requires.open

pub returns-in-Empty : goal.returns-in-Empty
returns-in-Empty c = row_empty c.loop-fault.invariant c.place-place.ensures c.in-Empty.ensures

pub returns-in-Fault : goal.returns-in-Fault
returns-in-Fault c = row_fault c.loop-fault.invariant c.place-place.ensures c.unit_bits.new.unit c.in-Fault.ensures

pub put-requires : goal.put-requires
put-requires c = row_can_put c.loop-fault.invariant c.place-place.ensures c.unit_bits.new.unit c.requires.open c.requires.inside c.in-Done.ensures.2.3.0

pub returns-then-self-eq0 : goal.returns-then-self-eq0
returns-then-self-eq0 c = row_interval c.loop-fault.invariant c.place-place.ensures c.requires.open c.requires.inside c.in-Done.ensures c.put.ensures c.if-self-eq0.true

pub returns-then-done-most : goal.returns-then-done-most
returns-then-done-most c = row_units c.loop-fault.invariant c.place-place.ensures c.requires.open c.requires.inside c.in-Done.ensures c.put.ensures (omega (arith, c.if-self-eq0.false)) (omega arith)

pub loop-fault-preserved : goal.loop-fault-preserved
loop-fault-preserved c = row_goes_on c.loop-fault.invariant c.place-place.ensures c.requires.open c.requires.inside c.in-Done.ensures c.put.ensures (omega (arith, c.if-self-eq0.false)) (omega arith)
