use Rattle.std.proofs.Common.{◌∙◌}
use Rattle.jpg_spec.specs.Meaning.{Meaning}
use Rattle.jpg_file.specs.Read.ReadFile.{ReaderState}
use Rattle.jpg_desk.specs.ReadPicture.{picture_reader}
use Rattle.jpg_desk.proofs.PictureTaken.{picture_end}
use Rattle.jpg_desk.proofs.Pumped.{ends}
use Rattle.jpg_desk.proofs.picture.ReaderPieceSink.end.Goals as goal

pub at_end-requires-clause-more : goal.at_end-requires-clause-more
at_end-requires-clause-more g c = c.requires.2.fed.fed.fed.fed.read.undone

pub at_end-requires-clause-limits : goal.at_end-requires-clause-limits
at_end-requires-clause-limits g c = c.requires.2.fed.fed.fed.limits

pub at_end-requires-clause-plain : goal.at_end-requires-clause-plain
at_end-requires-clause-plain g c = c.requires.2.fed.fed.fed.plain

pub returns : goal.returns
returns g c =
    let e = c.at_end.ensures in
    ends ReaderState Meaning picture_reader c.args.self.now c.at_end.new.reader (g.D.Desk.state c.args._desk.now) c.at_end.result (λ more. more)
    (λ from bytes h short. picture_end from c.at_end.new.reader bytes c.at_end.result e.limits (e.keeping ∙ h.keeping) e.plain e.done (e.ended bytes h.fed))
