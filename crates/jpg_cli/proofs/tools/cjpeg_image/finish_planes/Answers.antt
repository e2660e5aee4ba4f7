use Rattle.std.proofs.Common.{None, subst}
use Rattle.jpg_color.specs.ImageEncoder.{HasTaken}
use Rattle.jpg_color.specs.declared.encode.image_encoder.ImageEncoder.{ImageEncoder}
use Rattle.jpg_cli.proofs.tools.cjpeg_image.finish_planes.Goals as goal

pub returns : goal.returns
returns c = λ E info a samples like has count right. c.finish.ensures E info a samples like (subst (λ (e : ImageEncoder). HasTaken None info a samples e) c.in-Planes.is has) count right
