use Rattle.jpg_pnm_bmp.proofs.PlainSamples.{goes_on_plain}
use Rattle.jpg_pnm_bmp.proofs.laws.plain_samples_are_read.Goals as goal

pub returns : goal.returns
returns c = goes_on_plain
