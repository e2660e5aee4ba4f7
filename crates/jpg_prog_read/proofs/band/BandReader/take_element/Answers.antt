use Rattle.std.proofs.Common.{arith}
use Rattle.jpg_prog_read.proofs.BandBits.{both_taken}
use Rattle.jpg_prog_read.proofs.band.BandReader.take_element.Goals as goal

pub returns-in-Number : goal.returns-in-Number
returns-in-Number c =
    both_taken c.args.scan.now c.args.codes.now c.args.left c.take_number.result c.in-More.ensures (omega (arith, c.if-len-eq0.false, c.len.ensures.value)) c.take_number.ensures
