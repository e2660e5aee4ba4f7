use Rattle.std.proofs.Common.{[], refl, sym}
use Rattle.jpg_targa.proofs.PiecesRead.{all_there, some_taken}
use Rattle.jpg_targa.proofs.read.reader.WorkPieceWork.some.Goals as goal

pub returns-clause-led : goal.returns-clause-led
returns-clause-led c = λ bytes e.
    some_taken c.args.self.now c.advance.new.self bytes c.args.piece.now c.advance.result.used c.advance.result.answer c.advance.ensures.within e c.advance.ensures.stays.before
    (c.advance.ensures.led [] (record { long = sym e.0; none = λ h. refl }) (bytes, sym e.1))

pub returns-clause-all : goal.returns-clause-all
returns-clause-all c = all_there c.args.self.now c.advance.new.self c.advance.result.answer c.requires.going c.advance.ensures.stays.before c.advance.ensures.all
