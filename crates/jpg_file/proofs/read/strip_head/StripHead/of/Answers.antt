use Rattle.std.proofs.Common.{refl, ◌∙◌}
use Rattle.jpg_file.proofs.ByRow.StripBegin.{head_fits}
use Rattle.jpg_file.proofs.read.strip_head.StripHead.of.Goals as goal

pub returns-clause-head : goal.returns-clause-head
returns-clause-head c =
    head_fits c.args.picture.now _ c.copy.ensures refl (c.copied.ensures ∙ c.as_slice.ensures.value)
