use Rattle.std.proofs.Common.{Some, subst}
use Rattle.jpg_color.specs.ImageEncoder.{HasTaken}
use Rattle.jpg_color.specs.declared.encode.image_encoder.ImageEncoder.{ImageEncoder}
use Rattle.jpg_cli.proofs.tools.cjpeg_image.data_of.Goals as goal

pub returns-in-Ok-clause-gives : goal.returns-in-Ok-clause-gives
returns-in-Ok-clause-gives c = λ w info a samples has. c.in-Ok.ensures w info a samples (subst (λ (e : ImageEncoder). HasTaken (Some w) info a samples e) c.in-Rows.is has)
