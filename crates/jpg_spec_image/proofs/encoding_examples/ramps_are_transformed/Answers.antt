use Rattle.std.proofs.Common.{refl}
use Rattle.jpg_spec_image.specs.Dct.{odd_sums}
use Rattle.jpg_spec_image.specs.ForwardDct.{even_frequencies, woven, frequency_row, frequency_column, forward_dct}
use Rattle.jpg_spec_image.proofs.encoding_examples.ramps_are_transformed.Goals as goal

pub returns-clause-ramp : goal.returns-clause-ramp
unfolding odd_sums even_frequencies woven frequency_row frequency_column forward_dct
returns-clause-ramp c = refl

pub returns-clause-quantised : goal.returns-clause-quantised
returns-clause-quantised c = refl
