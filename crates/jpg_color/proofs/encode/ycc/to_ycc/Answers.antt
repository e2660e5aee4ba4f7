use Rattle.jpg_spec_image.specs.Luminance.{to_ycc}
use Rattle.jpg_color.proofs.Three.{three}
use Rattle.jpg_color.proofs.encode.ycc.to_ycc.Goals as goal

pub returns : goal.returns
unfolding to_ycc
returns c = three c.luminance.ensures c.blue_difference.ensures c.red_difference.ensures
