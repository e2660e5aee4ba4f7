use Rattle.jpg_pnm_bmp.proofs.PnmGiven.{tells_right}
use Rattle.jpg_pnm_bmp.proofs.read.pixels.PixelReader.gives.Goals as goal

pub returns-clause-right : goal.returns-clause-right
returns-clause-right c = tells_right c.args.self.now c.giving.result c.giving.ensures.some
