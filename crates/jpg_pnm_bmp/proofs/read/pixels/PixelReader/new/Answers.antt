use Rattle.jpg_pnm_bmp.proofs.ImageMade.{none_read}
use Rattle.jpg_pnm_bmp.proofs.read.pixels.PixelReader.new.Goals as goal

pub new-requires-2 : goal.new-requires-2
new-requires-2 c = none_read c.new.result c.new.ensures.before c.new.ensures.stands
