use Rattle.std.proofs.Common.{arith}
use Rattle.jpg_markers.proofs.Continuing.{filled_whole}
use Rattle.jpg_markers.proofs.whole.fill_length.Goals as goal

pub returns-else-bytes-n-clause-filled : goal.returns-else-bytes-n-clause-filled
returns-else-bytes-n-clause-filled c =
    let (few, front) = c.loop-n.invariant in
    filled_whole c.loop-n.n c.args.bytes.now few front (λ less is. c.if-bytes-n.false is)

pub returns-after-loop-n-clause-filled : goal.returns-after-loop-n-clause-filled
returns-after-loop-n-clause-filled c =
    let (few, front) = c.loop-n.invariant in
    filled_whole c.loop-n.n c.args.bytes.now few front (λ less is. omega (arith, less, c.loop-n-test.false))
