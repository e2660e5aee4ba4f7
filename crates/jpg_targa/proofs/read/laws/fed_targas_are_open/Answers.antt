use Rattle.jpg_spec_image.proofs.OpenTarga.{open_few}
use Rattle.jpg_targa.proofs.PiecesRead.{read_open}
use Rattle.jpg_targa.proofs.read.laws.fed_targas_are_open.Goals as goal

pub returns-clause-taken : goal.returns-clause-taken
returns-clause-taken c = λ bytes r h. h.3.taken_is

pub returns-clause-short : goal.returns-clause-short
returns-clause-short c = λ bytes r h. open_few bytes h.2 (read_open bytes r.reader.taken r.reader.work h.3)

pub returns-clause-open : goal.returns-clause-open
returns-clause-open c = λ bytes r h. read_open bytes r.reader.taken r.reader.work h.3
