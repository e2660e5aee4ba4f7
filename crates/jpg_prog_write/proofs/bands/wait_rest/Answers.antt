use Rattle.jpg_prog_write.proofs.Values.{none_wait}
use Rattle.jpg_prog_write.proofs.bands.wait_rest.Goals as goal

pub returns-else-band : goal.returns-else-band
returns-else-band c = none_wait c.args.band c.args.from c.args.block.now c.args.waiting.now.items c.if-band.false
