use Rattle.std.proofs.Common.{ap}
use Rattle.jpg_prog_read.specs.InWork.{InWork}
use Rattle.jpg_prog_read.proofs.BandBits.{code_taken, quiet_of}
use Rattle.jpg_prog_read.proofs.band.BandReader.take_code.Goals as goal

pub returns-in-Symbol : goal.returns-in-Symbol
returns-in-Symbol c =
    code_taken c.args.scan.now c.args.codes.now c.args.left c.args.self.now c.args.store.now c.in-Symbol.length c.in-Symbol.symbol c.symbol.result c.symbol.new.self c.skip_few.new.self
    c.requires.stage c.requires.open (quiet_of c.self.inside.begun c.self.inside.walk c.args.self.now.walked c.self.invariant.quiet c.if-self.false (ap (λ (s : InWork). s.walked) c.self.view_is)) c.in-Symbol.ensures c.skip_few.ensures c.symbol.ensures.outside c.symbol.ensures.open c.symbol.ensures.answered
