use Rattle.std.proofs.Common.{◌∙◌}
use Rattle.jpg_sample.proofs.Pairs.{repeated_once}
use Rattle.jpg_sample.proofs.repeat.once.Goals as goal

pub returns : goal.returns
returns c = c.copy_from_slice.ensures.after ∙ repeated_once c.args.row.now
