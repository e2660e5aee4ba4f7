use Rattle.jpg_prog_read.proofs.band.BandReader.take_some.Goals as goal

pub returns-in-Value : goal.returns-in-Value
returns-in-Value c = c.take_corrections.ensures c.args.codes.now c.args.left

pub returns-in-Long : goal.returns-in-Long
returns-in-Long c = c.take_corrections-in-Long.ensures c.args.codes.now c.args.left

pub returns-in-Ends : goal.returns-in-Ends
returns-in-Ends c = c.take_corrections-in-Ends.ensures c.args.codes.now c.args.left
