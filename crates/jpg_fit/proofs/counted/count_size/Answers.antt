use Rattle.std.proofs.Common.{arith}
use Rattle.jpg_fit.proofs.Splits.{size_written, size_none, size_long}
use Rattle.jpg_fit.proofs.counted.count_size.Goals as goal
use Rattle.jpg_fit.proofs.counted.count_size.Goals.{else-size-gt0-via-then-size-gt0+else-size-le272, else-size-gt0-via-else-size-gt0}

pub returns-then-size-le272 : goal.returns-then-size-le272
returns-then-size-le272 c = size_written c.args.counts.now c.args.size (omega (arith, c.if-size-gt0.true)) c.if-size-le272.true

pub returns-else-size-gt0 : goal.returns-else-size-gt0
returns-else-size-gt0 c =
    elim c.else-size-gt0.branch [
      | else-size-gt0-via-then-size-gt0+else-size-le272 w ↦ size_long c.args.counts.now c.args.size (omega (arith, w.if-size-le272.false))
      | else-size-gt0-via-else-size-gt0 w ↦ size_none c.args.counts.now c.args.size (omega (arith, w.if-size-gt0.false))
    ]
