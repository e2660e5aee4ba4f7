use Rattle.jpg_spec_words.proofs.WorkedBack.{picture_back, text_back, lines_back}
use Rattle.jpg_spec_words.proofs.work_laws.pictures_are_rotated_back.Goals as goal

pub returns-clause-picture : goal.returns-clause-picture
returns-clause-picture c = picture_back

pub returns-clause-same : goal.returns-clause-same
returns-clause-same c = text_back

pub returns-clause-lines : goal.returns-clause-lines
returns-clause-lines c = lines_back
