use Rattle.std.proofs.Common.{refl}
use Rattle.jpg_color.proofs.Drawn.{draws_row}
use Rattle.jpg_color.proofs.decode.strip_image.StripImage.push.Goals as goal

pub returns : goal.returns
returns g c = draws_row c.self.view_is c.requires.due c.requires.end c.push.ensures c.send_ready.ensures.sends refl
