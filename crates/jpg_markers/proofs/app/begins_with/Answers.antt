use Rattle.std.proofs.Common.{◌∙◌}
use Rattle.jpg_markers.proofs.Headers.{starts_is}
use Rattle.jpg_markers.proofs.app.begins_with.Goals as goal

pub returns : goal.returns
returns c = c.starts_with.ensures.value ∙ starts_is c.args.front.now c.args.contents.now
