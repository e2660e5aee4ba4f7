use Rattle.jpg_pnm_bmp.proofs.PnmGiven.{given_open, given_right}
use Rattle.jpg_pnm_bmp.proofs.laws.given_samples_go_on.Goals as goal

pub returns-clause-taken : goal.returns-clause-taken
returns-clause-taken c = λ bytes given r h. h.2.taken_is

pub returns-clause-open : goal.returns-clause-open
returns-clause-open c = λ bytes given r h. given_open bytes given r.reader.work h.2.gives

pub returns-clause-numbers : goal.returns-clause-numbers
returns-clause-numbers c = λ bytes given r h. given_right bytes given r.reader.work h.2.gives
