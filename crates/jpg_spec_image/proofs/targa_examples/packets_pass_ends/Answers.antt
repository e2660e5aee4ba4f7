use Rattle.std.proofs.Common.{[], ◌∷◌, ◌++◌, refl, arith}
use Rattle.std.specs.Prelude.{replicate}
use Rattle.jpg_spec_image.specs.TargaSteps.{run}
use Rattle.jpg_spec_image.specs.TargaExamples.{targa_head, gray_image, colour_image}
use Rattle.jpg_spec_image.proofs.TargaJudged.{targa_at}
use Rattle.jpg_spec_image.proofs.targa_examples.packets_pass_ends.Goals as goal

pub returns-clause-one : goal.returns-clause-one
unfolding run
returns-clause-one c = targa_at (targa_head 0 11 8 8 8 32 ++ 191 ∷ 128 ∷ []) 20 (gray_image 8 8 (replicate 64 128)) (omega arith) refl

pub returns-clause-rows : goal.returns-clause-rows
unfolding run
returns-clause-rows c = targa_at (targa_head 0 10 2 2 24 32 ++ 130 ∷ 1 ∷ 2 ∷ 3 ∷ 0 ∷ 4 ∷ 5 ∷ 6 ∷ []) 26 (colour_image 2 2 (3 ∷ 2 ∷ 1 ∷ 3 ∷ 2 ∷ 1 ∷ 3 ∷ 2 ∷ 1 ∷ 6 ∷ 5 ∷ 4 ∷ [])) (omega arith) refl

pub returns-clause-bottom : goal.returns-clause-bottom
unfolding run
returns-clause-bottom c = targa_at (targa_head 0 11 2 2 8 0 ++ 2 ∷ 1 ∷ 2 ∷ 3 ∷ 128 ∷ 4 ∷ []) 24 (gray_image 2 2 (3 ∷ 4 ∷ 1 ∷ 2 ∷ [])) (omega arith) refl

pub returns-clause-copies : goal.returns-clause-copies
unfolding run
returns-clause-copies c = targa_at (targa_head 0 10 1 1 24 32 ++ 255 ∷ 1 ∷ 2 ∷ 3 ∷ []) 22 (colour_image 1 1 (3 ∷ 2 ∷ 1 ∷ [])) (omega arith) refl

pub returns-clause-pixels : goal.returns-clause-pixels
unfolding run
returns-clause-pixels c = targa_at (targa_head 0 11 2 1 8 32 ++ 128 ∷ 7 ∷ 127 ∷ 8 ∷ []) 22 (gray_image 2 1 (7 ∷ 8 ∷ [])) (omega arith) refl

pub returns-clause-identifier : goal.returns-clause-identifier
unfolding run
returns-clause-identifier c = targa_at (targa_head 1 11 1 1 8 32 ++ 200 ∷ 129 ∷ 5 ∷ []) 21 (gray_image 1 1 (5 ∷ [])) (omega arith) refl
