use Rattle.jpg_prog_read.proofs.BandBits.{one_taken}
use Rattle.jpg_prog_read.proofs.band.BandReader.take_correction.Goals as goal

pub returns : goal.returns
returns c = λ ac left.
    one_taken c.args.scan.now ac left c.args.self.now c.args.store.now c.bit-bit.result c.correction_bit.result c.correction_bit.new.self c.skip.new.self c.requires.some c.bit-bit.ensures c.skip.ensures
    c.correction_bit.ensures.outside c.correction_bit.ensures.open (c.correction_bit.ensures.answered ac left)
