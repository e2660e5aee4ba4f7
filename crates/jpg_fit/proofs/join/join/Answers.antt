use Rattle.std.proofs.Common.{sym, ap, ◌∙◌}
use Rattle.jpg_fit.specs.Groups.{groups}
use Rattle.jpg_fit.proofs.Joins.{joins}
use Rattle.jpg_fit.proofs.join.join.Goals as goal

pub returns : goal.returns
returns c = ap (groups _) c.join_members.ensures ∙ sym (joins c.args.counts.now c.args.members.now c.args.first c.args.second)
