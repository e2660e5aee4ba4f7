use Rattle.std.proofs.Common.{◌∙◌}
use Rattle.jpg_exif.proofs.Fronts.{starts_is}
use Rattle.jpg_exif.proofs.directory.begins_with.Goals as goal

pub returns : goal.returns
returns c = c.starts_with.ensures.value ∙ starts_is c.args.front.now c.args.contents.now
