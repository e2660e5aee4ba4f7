use Rattle.std.proofs.Common.{arith}
use Rattle.jpg_prog_read.specs.declared.band.BandStep.TheVariants.{More, Done, Fault}
use Rattle.jpg_prog_read.proofs.BandBits.{gone_more, gone_then}
use Rattle.jpg_prog_read.proofs.band.BandReader.take.Goals as goal

pub returns-then-len-eq0-clause-takes : goal.returns-then-len-eq0-clause-takes
returns-then-len-eq0-clause-takes c = gone_then c.args.scan.now c.args.codes.now c.args.left More c.loop-store.invariant c.in-More.ensures

pub loop-store-preserved : goal.loop-store-preserved
loop-store-preserved c = gone_more c.args.scan.now c.args.codes.now c.args.left c.loop-store.invariant c.in-More.ensures (omega (arith, c.if-len-eq0.false, c.len.ensures.value))

pub returns-in-Done-clause-takes : goal.returns-in-Done-clause-takes
returns-in-Done-clause-takes c = gone_then c.args.scan.now c.args.codes.now c.args.left Done c.loop-store.invariant c.in-Done.ensures

pub returns-in-Fault-clause-takes : goal.returns-in-Fault-clause-takes
returns-in-Fault-clause-takes c = gone_then c.args.scan.now c.args.codes.now c.args.left (Fault c.in-Fault.fault) c.loop-store.invariant c.in-Fault.ensures
