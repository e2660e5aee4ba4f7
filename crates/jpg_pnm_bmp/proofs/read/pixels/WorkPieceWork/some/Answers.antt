use Rattle.std.proofs.Common.{[], sym}
use Rattle.jpg_pnm_bmp.proofs.Advance.{going_on, none_before}
use Rattle.jpg_pnm_bmp.proofs.PiecesRead.{some_taken}
use Rattle.jpg_pnm_bmp.proofs.read.pixels.WorkPieceWork.some.Goals as goal

pub advance-requires-clause-going : goal.advance-requires-clause-going
advance-requires-clause-going c = going_on c.args.self.now c.requires.going

pub returns-clause-led : goal.returns-clause-led
returns-clause-led c = λ bytes e.
    some_taken c.args.self.now c.advance.new.self bytes c.args.piece.now c.advance.result.used c.advance.result.answer c.advance.ensures.within e c.advance.ensures.stays.before
    (c.advance.ensures.led [] (none_before c.args.self.now e.0) (bytes, sym e.1))
