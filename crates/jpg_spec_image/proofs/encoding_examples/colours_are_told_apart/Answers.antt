use Rattle.std.proofs.Common.{refl}
use Rattle.jpg_spec_image.specs.Luminance.{to_ycc}
use Rattle.jpg_spec_image.proofs.encoding_examples.colours_are_told_apart.Goals as goal

pub returns : goal.returns
unfolding to_ycc
returns c = refl
