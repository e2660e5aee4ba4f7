use Rattle.std.proofs.Common.{rules, arith}
use Rattle.jpg_seq.proofs.Takings.{entry_more}
use Rattle.jpg_seq.proofs.values.fill.Goals as goal

pub loop-ten-preserved : goal.loop-ten-preserved
loop-ten-preserved c =
    (search rules, entry_more c.args.decoder.now c.loop-ten.entries c.loop-ten.ten c.entry_by.result (omega (arith, c.loop-ten.invariant.0, c.loop-ten-test.true)) c.loop-ten.invariant.1 c.entry_by.ensures)
