use Rattle.jpg_prog_read.proofs.BandBits.{one_taken}
use Rattle.jpg_prog_read.proofs.band.BandReader.take_bit.Goals as goal

pub returns : goal.returns
returns c =
    one_taken c.args.scan.now c.args.codes.now c.args.left c.args.self.now c.args.store.now c.bit-bit.result c.bit.result c.bit.new.self c.skip.new.self c.requires.some c.bit-bit.ensures c.skip.ensures
    c.bit.ensures.outside c.bit.ensures.open c.bit.ensures.answered
