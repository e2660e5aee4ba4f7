use Rattle.std.proofs.Common.{take, drop, sym}
use Rattle.jpg_prog_read.specs.InWork.{band_values}
use Rattle.jpg_prog_read.proofs.BandSteps.{ends_next}
use Rattle.jpg_prog_read.proofs.band.BandReader.start.Goals as goal

pub returns-in-Ends-clause-quiet : goal.returns-in-Ends-clause-quiet
returns-in-Ends-clause-quiet c = λ ac at bits k f.
    let b = c.args.scan.now in let block = c.args.block.now in
    let n = ends_next at bits c.args.self.now c.load.new.self (take b.start block) (band_values b block) (drop b.end block) c.load.ensures.new c.in-Ends.ensures c.load.ensures.small f in
    c.advance.ensures.ends ac at bits k n.0 (sym c.in-Ends.ensures)
