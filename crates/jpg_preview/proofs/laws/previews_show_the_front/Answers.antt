use Rattle.jpg_preview.proofs.FrontFound.{shown_has_front}
use Rattle.jpg_preview.proofs.FrontShown.{shown_front}
use Rattle.jpg_preview.proofs.laws.previews_show_the_front.Goals as goal

pub returns-clause-front : goal.returns-clause-front
returns-clause-front c = λ scans bytes r w rest front k. shown_front scans bytes rest front r w k

pub returns-clause-found : goal.returns-clause-found
returns-clause-found c = λ scans bytes rest r w. shown_has_front scans bytes rest r w
