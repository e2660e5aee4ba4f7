use Rattle.std.proofs.Common.{[], ◌∷◌, ◌++◌, refl, arith}
use Rattle.std.specs.Prelude.{replicate}
use Rattle.jpg_spec.specs.declared.fault.Fault.TheVariants.{ImageHeader, ImageUnsupported}
use Rattle.jpg_spec_image.specs.TargaSteps.{run}
use Rattle.jpg_spec_image.specs.TargaExamples.{targa_head, gray_image}
use Rattle.jpg_spec_image.proofs.TargaJudged.{targa_at, fault_at}
use Rattle.jpg_spec_image.proofs.targa_examples.headers_are_judged_at_18.Goals as goal

pub returns-clause-map : goal.returns-clause-map
unfolding run
returns-clause-map c = fault_at (0 ∷ 1 ∷ 11 ∷ replicate 9 0 ++ 8 ∷ 0 ∷ 8 ∷ 0 ∷ 8 ∷ 32 ∷ []) 18 ImageUnsupported (omega arith) refl

pub returns-clause-kind : goal.returns-clause-kind
unfolding run
returns-clause-kind c = fault_at (targa_head 0 1 8 8 8 32 ++ 1 ∷ []) 18 ImageUnsupported (omega arith) refl

pub returns-clause-gray_depth : goal.returns-clause-gray_depth
unfolding run
returns-clause-gray_depth c = fault_at (targa_head 0 3 8 8 24 32) 18 ImageUnsupported (omega arith) refl

pub returns-clause-colour_depth : goal.returns-clause-colour_depth
unfolding run
returns-clause-colour_depth c = fault_at (targa_head 0 10 8 8 8 32) 18 ImageUnsupported (omega arith) refl

pub returns-clause-columns : goal.returns-clause-columns
unfolding run
returns-clause-columns c = fault_at (targa_head 0 3 8 8 8 16) 18 ImageUnsupported (omega arith) refl

pub returns-clause-interleaved : goal.returns-clause-interleaved
unfolding run
returns-clause-interleaved c = fault_at (targa_head 0 3 8 8 8 64) 18 ImageUnsupported (omega arith) refl

pub returns-clause-first : goal.returns-clause-first
unfolding run
returns-clause-first c = fault_at (targa_head 0 3 0 8 24 32) 18 ImageUnsupported (omega arith) refl

pub returns-clause-side : goal.returns-clause-side
unfolding run
returns-clause-side c = fault_at (targa_head 0 3 0 8 8 32) 18 ImageHeader (omega arith) refl

pub returns-clause-pixels : goal.returns-clause-pixels
unfolding run
returns-clause-pixels c = fault_at (0 ∷ 0 ∷ 3 ∷ replicate 9 0 ++ 220 ∷ 255 ∷ 220 ∷ 255 ∷ 8 ∷ 32 ∷ []) 18 ImageHeader (omega arith) refl

pub returns-clause-low_bits : goal.returns-clause-low_bits
unfolding run
returns-clause-low_bits c = targa_at (targa_head 0 3 1 1 8 47 ++ 9 ∷ []) 19 (gray_image 1 1 (9 ∷ [])) (omega arith) refl
