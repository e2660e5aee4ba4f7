use Rattle.std.proofs.Common.{arith}
use Rattle.jpg_prog_read.proofs.ac_reader.AcReader.pass_seen.Goals as goal

pub loop-self-preserved : goal.loop-self-preserved
loop-self-preserved c =
    let l = c.loop-self in let v = l.invariant in let w = v.between in let p = c.pass_unit.ensures in
    let empty = c.is_next_empty.ensures.none c.if-not-is_next_empty.false in
    record {
      between = (w.0, w.1, p.passes w.0 w.1 c.args.coefs.now (empty w.0 w.1 w.2) w.2);
      passes = λ i bits first. (let u = v.passes i bits first in p.passes i bits c.args.coefs.now (empty i bits u) u);
      count = omega (arith, v.count, p.count);
    }
