use Rattle.std.proofs.Common.{◌++◌, ◌∙◌, arith}
use Rattle.jpg_spec.specs.Meaning.{Meaning}
use Rattle.jpg_file.specs.Read.ReadFile.{ReaderState}
use Rattle.jpg_desk.specs.ReadPicture.{picture_reader}
use Rattle.jpg_desk.proofs.PictureTaken.{picture_piece}
use Rattle.jpg_desk.proofs.Pumped.{feeds}
use Rattle.jpg_desk.proofs.picture.ReaderPieceSink.feed.Goals as goal

pub take_piece-requires-clause-more : goal.take_piece-requires-clause-more
take_piece-requires-clause-more g c = c.requires.2.fed.fed.fed.fed.read.undone

pub take_piece-requires-clause-limits : goal.take_piece-requires-clause-limits
take_piece-requires-clause-limits g c = c.requires.2.fed.fed.fed.limits

pub take_piece-requires-clause-short : goal.take_piece-requires-clause-short
take_piece-requires-clause-short g c = (let few = c.requires.2.reads.few in omega (arith, few))

pub take_piece-requires-clause-plain : goal.take_piece-requires-clause-plain
take_piece-requires-clause-plain g c = c.requires.2.fed.fed.fed.plain

pub returns-clause-fed : goal.returns-clause-fed
returns-clause-fed g c =
    let e = c.take_piece.ensures in
    feeds ReaderState Meaning picture_reader c.args.self.now c.take_piece.new.reader (g.D.Desk.state c.args._desk.now) c.args.piece.now c.take_piece.result
    (λ from bytes h most. picture_piece from c.take_piece.new.reader (bytes ++ c.args.piece.now) c.take_piece.result e.limits (e.keeping ∙ h.keeping) e.plain e.done (e.taken bytes h.fed))
