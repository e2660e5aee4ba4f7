use Rattle.jpg_pnm_bmp.proofs.PiecesFed.{made_is}
use Rattle.jpg_pnm_bmp.proofs.read.piece.make_whole.Goals as goal

pub returns-in-Ok : goal.returns-in-Ok
returns-in-Ok g c = made_is (g.W.PieceWork.kind.image c.args.work.now) c.in-Ok.info c.make.new.made c.in-Ok.ensures
