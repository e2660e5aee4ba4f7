use Rattle.jpg_pnm_bmp.proofs.Written.{text_begins, text_grows, text_continues, parts_go_on, text_ends}
use Rattle.jpg_pnm_bmp.proofs.laws.images_are_written_whole.Goals as goal

pub returns-clause-start : goal.returns-clause-start
returns-clause-start c = text_begins

pub returns-clause-row : goal.returns-clause-row
returns-clause-row c = text_grows

pub returns-clause-part : goal.returns-clause-part
returns-clause-part c = text_continues

pub returns-clause-more : goal.returns-clause-more
returns-clause-more c = parts_go_on

pub returns-clause-done : goal.returns-clause-done
returns-clause-done c = text_ends
