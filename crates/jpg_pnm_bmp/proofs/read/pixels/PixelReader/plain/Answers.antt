use Rattle.jpg_pnm_bmp.proofs.PlainSamples.{tells_plain, tells_not_plain}
use Rattle.jpg_pnm_bmp.proofs.read.pixels.PixelReader.plain.Goals as goal

pub returns-clause-some : goal.returns-clause-some
returns-clause-some c = tells_plain c.args.self.now c.unscaled.result c.unscaled.ensures

pub returns-clause-none : goal.returns-clause-none
returns-clause-none c = tells_not_plain c.args.self.now c.unscaled.result c.unscaled.ensures
