use Rattle.std.proofs.Common.{rules, length}
use Rattle.jpg_sample.proofs.Sums.{quarters_done}
use Rattle.jpg_sample.proofs.narrow.quarters.Goals as goal

pub returns : goal.returns
returns c = quarters_done c.args.rows.now c.loop-x.out c.args.width c.loop-x.x (length c.args.out.now) c.loop-x.invariant.0 (search rules) c.loop-x.invariant.1
