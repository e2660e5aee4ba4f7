use Rattle.std.proofs.Common.{[], ◌∷◌, ◌++◌}
use Rattle.jpg_spec_image.specs.TargaSteps.{run}
use Rattle.jpg_spec_image.specs.TargaExamples.{targa_head}
use Rattle.jpg_spec_image.proofs.TargaJudged.{short_at}
use Rattle.jpg_spec_image.proofs.targa_examples.short_files_are_told_at_their_end.Goals as goal

pub returns-clause-packet : goal.returns-clause-packet
unfolding run
returns-clause-packet c = short_at (targa_head 0 11 8 8 8 32 ++ 191 ∷ []) tt

pub returns-clause-raw : goal.returns-clause-raw
unfolding run
returns-clause-raw c = short_at (targa_head 0 3 1 2 8 32 ++ 1 ∷ []) tt

pub returns-clause-head : goal.returns-clause-head
unfolding run
returns-clause-head c = short_at (0 ∷ 1 ∷ []) tt

pub returns-clause-identifier : goal.returns-clause-identifier
unfolding run
returns-clause-identifier c = short_at (targa_head 3 3 1 1 8 32 ++ 1 ∷ 2 ∷ []) tt

pub returns-clause-none : goal.returns-clause-none
unfolding run
returns-clause-none c = short_at [] tt
