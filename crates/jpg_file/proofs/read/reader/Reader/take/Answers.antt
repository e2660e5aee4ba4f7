use Rattle.std.proofs.Common.{subst}
use Rattle.jpg_file.specs.Read.PictureRead.{RevealsFile}
use Rattle.jpg_file.specs.Read.ReadFile.{ReaderState}
use Rattle.jpg_file.proofs.Files.Leaving.{takes_whole}
use Rattle.jpg_file.proofs.read.reader.Reader.take.Goals as goal

pub returns-clause-meaning : goal.returns-clause-meaning
returns-clause-meaning c = λ bytes d.
    let shows = subst (λ (r : ReaderState). RevealsFile r.file c.picture_of-picture.result) c.self.view_is c.picture_of-picture.ensures.reveals in
    takes_whole _ bytes c.picture_of-picture.result shows d

pub returns-clause-early : goal.returns-clause-early
returns-clause-early c = λ bytes d.
    let shows = subst (λ (r : ReaderState). RevealsFile r.file c.picture_of-picture.result) c.self.view_is c.picture_of-picture.ensures.reveals in
    shows _ d.segments d.blocks d.left
