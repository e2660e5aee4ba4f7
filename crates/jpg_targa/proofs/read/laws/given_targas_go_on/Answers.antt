use Rattle.jpg_spec_image.proofs.OpenTarga.{open_few}
use Rattle.jpg_targa.proofs.SamplesRead.{given_open, goes_on_targa}
use Rattle.jpg_targa.proofs.read.laws.given_targas_go_on.Goals as goal

pub returns-clause-numbers : goal.returns-clause-numbers
returns-clause-numbers c = goes_on_targa

pub returns-clause-taken : goal.returns-clause-taken
returns-clause-taken c = λ bytes given r h. h.2.taken_is

pub returns-clause-short : goal.returns-clause-short
returns-clause-short c = λ bytes given r h all. open_few bytes all (given_open bytes given r.reader.work h.2.gives)

pub returns-clause-open : goal.returns-clause-open
returns-clause-open c = λ bytes given r h. given_open bytes given r.reader.work h.2.gives
