use Rattle.std.proofs.Common.{◌++◌, refl}
use Rattle.jpg_spec.proofs.Files.FileLaws.{shown_not_standing, whole_file_not_standing, shown_not_whole, whole_file_not_shown}
use Rattle.jpg_spec.proofs.file_meaning_laws.files_come_to_one_thing.Goals as goal

pub returns-clause-shown_or_standing : goal.returns-clause-shown_or_standing
returns-clause-shown_or_standing c = λ limits front rest fault s t. shown_not_standing limits fault front rest (front ++ rest) s t refl

pub returns-clause-whole_or_standing : goal.returns-clause-whole_or_standing
returns-clause-whole_or_standing c = λ limits front rest M w t. whole_file_not_standing limits front rest M w t

pub returns-clause-shown_or_whole : goal.returns-clause-shown_or_whole
returns-clause-shown_or_whole c = λ limits front rest fault s w. shown_not_whole limits fault front rest (front ++ rest) w.0 w.1.rest s w.1 w.1.cut

pub returns-clause-whole_or_shown : goal.returns-clause-whole_or_shown
returns-clause-whole_or_shown c = λ limits bytes more M w fault s. whole_file_not_shown limits bytes more fault M w s
