use Rattle.std.proofs.Common.{[], ◌∷◌, ◌++◌, refl, arith}
use Rattle.std.specs.Prelude.{codes}
use Rattle.jpg_spec.specs.Segments.{standard_limits}
use Rattle.jpg_spec.specs.declared.fault.Fault.TheVariants.{ImageText, ImageShort, ImageValue}
use Rattle.jpg_spec_image.specs.ImageSteps.{run, at_start}
use Rattle.jpg_spec_image.specs.ImageExamples.{one_gray}
use Rattle.jpg_spec_image.proofs.ImageJudged.{image_at, fault_at, end_fault}
use Rattle.jpg_spec_image.proofs.image_examples.bytes_are_samples.Goals as goal

pub returns-clause-white : goal.returns-clause-white
unfolding run
returns-clause-white c = image_at standard_limits (codes "P5\n1 1\n255\n" ++ 255 ∷ []) 12 (one_gray 255) (omega arith) (omega arith) refl

pub returns-clause-space : goal.returns-clause-space
unfolding run
returns-clause-space c = image_at standard_limits (codes "P5 1 1 255  ") 12 (one_gray 32) (omega arith) (omega arith) refl

pub returns-clause-short : goal.returns-clause-short
unfolding run
returns-clause-short c = end_fault standard_limits (codes "P5 1 1 255 ") ImageShort (omega arith) (run at_start (codes "P5 1 1 255 ")) refl tt refl

pub returns-clause-comment : goal.returns-clause-comment
unfolding run
returns-clause-comment c = fault_at standard_limits (codes "P5 1 1 255#") 11 ImageText (omega arith) (omega arith) refl

pub returns-clause-large : goal.returns-clause-large
unfolding run
returns-clause-large c = fault_at standard_limits (codes "P5 1 1 9 " ++ 10 ∷ []) 10 ImageValue (omega arith) (omega arith) refl
