use Rattle.std.proofs.Common.{[], ◌∷◌, ◌++◌, refl, arith}
use Rattle.jpg_spec_image.specs.TargaSteps.{run}
use Rattle.jpg_spec_image.specs.TargaExamples.{targa_head, gray_image, colour_image}
use Rattle.jpg_spec_image.proofs.TargaJudged.{targa_at}
use Rattle.jpg_spec_image.proofs.targa_examples.raw_rows_stand_in_two_orders.Goals as goal

pub returns-clause-bottom : goal.returns-clause-bottom
unfolding run
returns-clause-bottom c = targa_at (targa_head 0 3 2 2 8 0 ++ 1 ∷ 2 ∷ 3 ∷ 4 ∷ []) 22 (gray_image 2 2 (3 ∷ 4 ∷ 1 ∷ 2 ∷ [])) (omega arith) refl

pub returns-clause-top : goal.returns-clause-top
unfolding run
returns-clause-top c = targa_at (targa_head 0 3 2 2 8 32 ++ 1 ∷ 2 ∷ 3 ∷ 4 ∷ []) 22 (gray_image 2 2 (1 ∷ 2 ∷ 3 ∷ 4 ∷ [])) (omega arith) refl

pub returns-clause-bottom_colours : goal.returns-clause-bottom_colours
unfolding run
returns-clause-bottom_colours c = targa_at (targa_head 0 2 1 2 24 0 ++ 1 ∷ 2 ∷ 3 ∷ 4 ∷ 5 ∷ 6 ∷ []) 24 (colour_image 1 2 (6 ∷ 5 ∷ 4 ∷ 3 ∷ 2 ∷ 1 ∷ [])) (omega arith) refl

pub returns-clause-top_colours : goal.returns-clause-top_colours
unfolding run
returns-clause-top_colours c = targa_at (targa_head 0 2 1 2 24 32 ++ 1 ∷ 2 ∷ 3 ∷ 4 ∷ 5 ∷ 6 ∷ []) 24 (colour_image 1 2 (3 ∷ 2 ∷ 1 ∷ 6 ∷ 5 ∷ 4 ∷ [])) (omega arith) refl

pub returns-clause-identifier : goal.returns-clause-identifier
unfolding run
returns-clause-identifier c = targa_at (targa_head 2 3 1 1 8 0 ++ 7 ∷ 8 ∷ 9 ∷ []) 21 (gray_image 1 1 (9 ∷ [])) (omega arith) refl

pub returns-clause-more : goal.returns-clause-more
unfolding run
returns-clause-more c = targa_at (targa_head 0 3 1 1 8 0 ++ 9 ∷ 10 ∷ []) 19 (gray_image 1 1 (9 ∷ [])) (omega arith) refl
