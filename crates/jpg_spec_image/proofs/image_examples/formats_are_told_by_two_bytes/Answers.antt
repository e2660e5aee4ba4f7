use Rattle.std.proofs.Common.{[], refl, arith}
use Rattle.std.specs.Prelude.{codes}
use Rattle.jpg_spec.specs.Segments.{standard_limits}
use Rattle.jpg_spec.specs.declared.fault.Fault.TheVariants.{ImageText, ImageUnsupported, ImageShort}
use Rattle.jpg_spec_image.specs.ImageSteps.{run, at_start}
use Rattle.jpg_spec_image.proofs.ImageJudged.{fault_at, end_fault}
use Rattle.jpg_spec_image.proofs.image_examples.formats_are_told_by_two_bytes.Goals as goal

pub returns-clause-pam : goal.returns-clause-pam
unfolding run
returns-clause-pam c = fault_at standard_limits (codes "P7") 2 ImageUnsupported (omega arith) (omega arith) refl

pub returns-clause-other : goal.returns-clause-other
unfolding run
returns-clause-other c = fault_at standard_limits (codes "P8") 2 ImageText (omega arith) (omega arith) refl

pub returns-clause-first : goal.returns-clause-first
unfolding run
returns-clause-first c = fault_at standard_limits (codes "GIF") 1 ImageText (omega arith) (omega arith) refl

pub returns-clause-none : goal.returns-clause-none
unfolding run
returns-clause-none c = end_fault standard_limits [] ImageShort (omega arith) (run at_start []) refl tt refl
