use Rattle.std.proofs.Common.{refl, arith}
use Rattle.std.specs.Prelude.{codes}
use Rattle.jpg_spec.specs.Segments.{standard_limits}
use Rattle.jpg_spec_image.specs.ImageSteps.{run, at_start}
use Rattle.jpg_spec_image.specs.ImageExamples.{one_gray, one_colour}
use Rattle.jpg_spec_image.proofs.ImageJudged.{image_at, end_image}
use Rattle.jpg_spec_image.proofs.image_examples.numbers_are_samples.Goals as goal

pub returns-clause-line : goal.returns-clause-line
unfolding run
returns-clause-line c = image_at standard_limits (codes "P2 1 1 9 9\n") 11 (one_gray 255) (omega arith) (omega arith) refl

pub returns-clause-any : goal.returns-clause-any
unfolding run
returns-clause-any c = image_at standard_limits (codes "P2 1 1 9 5x") 11 (one_gray 142) (omega arith) (omega arith) refl

pub returns-clause-end : goal.returns-clause-end
unfolding run
returns-clause-end c = end_image standard_limits (codes "P2 1 1 9 9") (one_gray 255) (omega arith) (run at_start (codes "P2 1 1 9 9")) refl tt refl

pub returns-clause-long : goal.returns-clause-long
unfolding run
returns-clause-long c = image_at standard_limits (codes "P2 01 1 000000000009 9\n") 23 (one_gray 255) (omega arith) (omega arith) refl

pub returns-clause-comments : goal.returns-clause-comments
unfolding run
returns-clause-comments c = end_image standard_limits (codes "P3#a\n1\t1#b\n255 1 2\r3") (one_colour 1 2 3) (omega arith) (run at_start (codes "P3#a\n1\t1#b\n255 1 2\r3")) refl tt refl
