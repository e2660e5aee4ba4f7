use Rattle.jpg_pnm_bmp.proofs.EndRead.{fed_open}
use Rattle.jpg_pnm_bmp.proofs.laws.fed_bytes_are_open.Goals as goal

pub returns-clause-taken : goal.returns-clause-taken
returns-clause-taken c = λ bytes r h. h.3.taken_is

pub returns-clause-open : goal.returns-clause-open
returns-clause-open c = λ bytes r h. fed_open bytes r h
