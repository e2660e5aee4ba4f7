use Rattle.std.proofs.Common.{◌++◌, refl}
use Rattle.jpg_spec.proofs.Files.FileLaws.{means_once, means_more, whole_last}
use Rattle.jpg_spec.proofs.file_meaning_laws.files_mean_one_thing.Goals as goal

pub returns-clause-one : goal.returns-clause-one
returns-clause-one c = λ limits bytes M N v w. (means_once limits bytes bytes M N v w refl).0

pub returns-clause-more : goal.returns-clause-more
returns-clause-more c = λ limits bytes more M w. means_more limits bytes more M w

pub returns-clause-front : goal.returns-clause-front
returns-clause-front c = λ limits bytes more M N v w. (means_once limits (bytes ++ more) (bytes ++ more) M N (means_more limits bytes more M v.0) w refl).0

pub returns-clause-place : goal.returns-clause-place
returns-clause-place c = λ limits bytes more M N v w. whole_last limits bytes more M N v w
