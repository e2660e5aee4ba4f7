use Rattle.std.proofs.Common.{rules}
use Rattle.jpg_dct.proofs.Loops.{whole_block}
use Rattle.jpg_dct.proofs.inverse.wide.block.Goals as goal

pub returns : goal.returns
returns c =
    whole_block c.args.values.now c.loop-u.done c.loop-v.samples c.loop-u.u c.loop-v.v (search rules) (search rules)
    c.loop-u.invariant.0 c.loop-u.invariant.1 c.loop-v.invariant.0 c.loop-v.invariant.1
