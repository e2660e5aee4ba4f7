use Rattle.std.proofs.Common.{sym}
use Rattle.jpg_transform.proofs.planning.plan.Goals as goal

pub returns : goal.returns
returns c = (let of = c.of.ensures in c.plan_head.ensures c.args.picture.now (record { frame = sym of.frame; colour = sym of.colour; quants = sym of.quants; jfif = sym of.jfif }))
