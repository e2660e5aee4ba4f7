use Rattle.std.proofs.Common.{refl, arith}
use Rattle.std.specs.Prelude.{codes}
use Rattle.jpg_spec.specs.Segments.{standard_limits}
use Rattle.jpg_spec.specs.declared.fault.Fault.TheVariants.{ImageText, ImageHeader, ImageUnsupported, ImageValue}
use Rattle.jpg_spec_image.specs.ImageSteps.{run, at_start}
use Rattle.jpg_spec_image.proofs.ImageJudged.{fault_at, end_fault}
use Rattle.jpg_spec_image.proofs.image_examples.numbers_are_judged_after_them.Goals as goal

pub returns-clause-sample : goal.returns-clause-sample
unfolding run
returns-clause-sample c = fault_at standard_limits (codes "P2 1 1 9 10\n") 12 ImageValue (omega arith) (omega arith) refl

pub returns-clause-at_end : goal.returns-clause-at_end
unfolding run
returns-clause-at_end c = end_fault standard_limits (codes "P2 1 1 9 10") ImageValue (omega arith) (run at_start (codes "P2 1 1 9 10")) refl tt refl

pub returns-clause-width : goal.returns-clause-width
unfolding run
returns-clause-width c = fault_at standard_limits (codes "P6 0 1 255 ") 5 ImageHeader (omega arith) (omega arith) refl

pub returns-clause-pixels : goal.returns-clause-pixels
unfolding run
returns-clause-pixels c = fault_at standard_limits (codes "P6 65500 65500 255 ") 15 ImageHeader (omega arith) (omega arith) refl

pub returns-clause-most : goal.returns-clause-most
unfolding run
returns-clause-most c = end_fault standard_limits (codes "P5 1 1 256") ImageUnsupported (omega arith) (run at_start (codes "P5 1 1 256")) refl tt refl

pub returns-clause-letter : goal.returns-clause-letter
unfolding run
returns-clause-letter c = fault_at standard_limits (codes "P2 70000x") 9 ImageText (omega arith) (omega arith) refl
