use Rattle.std.proofs.Common.{[]}
use Rattle.jpg_pnm_bmp.proofs.PlainSamples.{unscaled_at}
use Rattle.jpg_pnm_bmp.proofs.read.numbers.unscaled_info.Goals as goal

pub returns-then-most : goal.returns-then-most
returns-then-most c =
    unscaled_at c.args.format c.in-All.width c.in-All.height c.in-All.most c.pnm_info.result c.args.numbers c.in-All.is c.if-most.true (c.pnm_info.ensures [])
