use Rattle.jpg_pnm_bmp.proofs.FiveTurned.{five_are}
use Rattle.jpg_pnm_bmp.proofs.write.file_row.five_turned.Goals as goal

pub returns : goal.returns
returns c = five_are c.args.pixels.now c.requires
