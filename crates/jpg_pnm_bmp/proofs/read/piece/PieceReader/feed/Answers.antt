use Rattle.std.proofs.Common.{rules, refl}
use Rattle.jpg_pnm_bmp.proofs.PiecesFed.{bytes_more, fed_more}
use Rattle.jpg_pnm_bmp.proofs.read.piece.PieceReader.feed.Goals as goal

pub returns-in-Ok-More-clause-answered : goal.returns-in-Ok-More-clause-answered
returns-in-Ok-More-clause-answered g c = λ bytes h.
    fed_more g.W.PieceWork.kind c.args.self.now _ bytes c.args.piece.now c.read_piece-answer.result (search rules) h (bytes_more bytes c.args.piece.now h.2 (λ i. (let t = c.type_inv.piece i in search (rules, t)))) refl refl refl
    (c.read_piece-answer.ensures.led bytes h.3 h.2)
