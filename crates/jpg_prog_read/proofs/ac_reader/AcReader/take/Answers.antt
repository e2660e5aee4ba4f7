use Rattle.jpg_prog_read.proofs.AcUnits.{between_at, padded_at, takes_bits, taken_quietly, unit_taken}
use Rattle.jpg_prog_read.proofs.ac_reader.AcReader.take.Goals as goal

pub block-block-requires : goal.block-block-requires
block-block-requires c =
    let m = c.args.self.now in let i = c.requires.between.0 in let bits = c.requires.between.1 in let now = c.args.coefs.now in let p = c.place-place.result in
    padded_at (between_at m i bits now p c.requires.between.2 c.requires.some c.place-place.ensures).has_due

pub start-requires-clause-fits : goal.start-requires-clause-fits
start-requires-clause-fits c =
    let m = c.args.self.now in let i = c.requires.between.0 in let bits = c.requires.between.1 in let now = c.args.coefs.now in let p = c.place-place.result in
    takes_bits (between_at m i bits now p c.requires.between.2 c.requires.some c.place-place.ensures) c.block-block.result c.block-block.ensures

pub returns-clause-takes : goal.returns-clause-takes
returns-clause-takes c = λ i bits w.
    let m = c.args.self.now in let now = c.args.coefs.now in let p = c.place-place.result in
    unit_taken (between_at m i bits now p w c.requires.some c.place-place.ensures) c.block-block.result c.block-block.ensures c.start.new.self c.start.result c.start.ensures.open c.start.ensures.outside c.start.ensures.answered

pub returns-clause-quiet : goal.returns-clause-quiet
returns-clause-quiet c = λ i bits w.
    let m = c.args.self.now in let now = c.args.coefs.now in let p = c.place-place.result in
    taken_quietly (between_at m i bits now p w c.requires.some c.place-place.ensures) c.block-block.result c.block-block.ensures c.start.result c.start.ensures.quiet
