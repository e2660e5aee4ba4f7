use Rattle.std.proofs.Common.{refl}
use Rattle.std.specs.Fmt.{digits}
use Rattle.jpg_spec_image.specs.ImageText.{pnm_header, bmp_header, palette, targa_header}
use Rattle.jpg_spec_image.proofs.pixel_examples.images_have_their_texts.Goals as goal

pub returns-clause-pnm : goal.returns-clause-pnm
unfolding pnm_header digits
returns-clause-pnm c = refl

pub returns-clause-bmp : goal.returns-clause-bmp
unfolding bmp_header palette
returns-clause-bmp c = refl

pub returns-clause-targa : goal.returns-clause-targa
unfolding targa_header
returns-clause-targa c = refl

pub returns-clause-colours : goal.returns-clause-colours
unfolding targa_header
returns-clause-colours c = refl
