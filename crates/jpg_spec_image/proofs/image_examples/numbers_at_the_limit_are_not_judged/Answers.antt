use Rattle.std.proofs.Common.{refl, arith}
use Rattle.std.specs.Prelude.{codes}
use Rattle.jpg_spec_image.specs.ImageSteps.{run}
use Rattle.jpg_spec_image.specs.ImageExamples.{one_gray, ten_bytes}
use Rattle.jpg_spec_image.proofs.ImageJudged.{image_at, too_long_at}
use Rattle.jpg_spec_image.proofs.image_examples.numbers_at_the_limit_are_not_judged.Goals as goal

pub returns-clause-right : goal.returns-clause-right
unfolding run
returns-clause-right c = too_long_at ten_bytes (codes "P2 1 1 9 9") (omega arith) tt

pub returns-clause-wrong : goal.returns-clause-wrong
unfolding run
returns-clause-wrong c = too_long_at ten_bytes (codes "P2 1 1 9 99") (omega arith) tt

pub returns-clause-whole : goal.returns-clause-whole
unfolding run
returns-clause-whole c = image_at ten_bytes (codes "P5 1 1 9 \t") 10 (one_gray 255) (omega arith) (omega arith) refl
