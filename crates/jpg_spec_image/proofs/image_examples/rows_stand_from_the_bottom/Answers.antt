use Rattle.std.proofs.Common.{[], ◌∷◌, ◌++◌, refl, arith}
use Rattle.std.specs.Prelude.{codes}
use Rattle.jpg_spec.specs.Segments.{standard_limits}
use Rattle.jpg_spec.specs.declared.fault.Fault.TheVariants.{ImageHeader, ImageUnsupported, ImageShort, ImageValue}
use Rattle.jpg_spec_image.specs.ImageSteps.{run, at_start}
use Rattle.jpg_spec_image.specs.ImageExamples.{colours_one_by_two, bmp_head}
use Rattle.jpg_spec_image.proofs.ImageJudged.{image_at, fault_at, end_fault}
use Rattle.jpg_spec_image.proofs.image_examples.rows_stand_from_the_bottom.Goals as goal

pub returns-clause-colours : goal.returns-clause-colours
unfolding run
returns-clause-colours c = image_at standard_limits (bmp_head 54 2 24 0 0 ++ 1 ∷ 2 ∷ 3 ∷ 0 ∷ 4 ∷ 5 ∷ 6 ∷ []) 61 (colours_one_by_two (6 ∷ 5 ∷ 4 ∷ 3 ∷ 2 ∷ 1 ∷ [])) (omega arith) (omega arith) refl

pub returns-clause-palette : goal.returns-clause-palette
unfolding run
returns-clause-palette c = image_at standard_limits (bmp_head 63 2 8 0 2 ++ 1 ∷ 2 ∷ 3 ∷ 0 ∷ 4 ∷ 5 ∷ 6 ∷ 0 ∷ 9 ∷ 1 ∷ 7 ∷ 7 ∷ 7 ∷ 0 ∷ []) 68 (colours_one_by_two (3 ∷ 2 ∷ 1 ∷ 6 ∷ 5 ∷ 4 ∷ [])) (omega arith) (omega arith) refl

pub returns-clause-index : goal.returns-clause-index
unfolding run
returns-clause-index c = fault_at standard_limits (bmp_head 62 2 8 0 2 ++ 1 ∷ 2 ∷ 3 ∷ 0 ∷ 4 ∷ 5 ∷ 6 ∷ 0 ∷ 2 ∷ []) 63 ImageValue (omega arith) (omega arith) refl

pub returns-clause-packed : goal.returns-clause-packed
unfolding run
returns-clause-packed c = fault_at standard_limits (bmp_head 54 2 24 1 0) 54 ImageUnsupported (omega arith) (omega arith) refl

pub returns-clause-from_the_top : goal.returns-clause-from_the_top
unfolding run
returns-clause-from_the_top c = fault_at standard_limits (bmp_head 54 4294967294 24 0 0) 54 ImageHeader (omega arith) (omega arith) refl

pub returns-clause-early : goal.returns-clause-early
unfolding run
returns-clause-early c = fault_at standard_limits (bmp_head 61 2 8 0 2) 54 ImageHeader (omega arith) (omega arith) refl

pub returns-clause-short : goal.returns-clause-short
unfolding run
returns-clause-short c = end_fault standard_limits (codes "BM") ImageShort (omega arith) (run at_start (codes "BM")) refl tt refl
