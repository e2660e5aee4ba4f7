use Rattle.std.proofs.Common.{arith}
use Rattle.jpg_color.proofs.StripRows.{is_part}
use Rattle.jpg_color.proofs.encode.strips.put_strip.Goals as goal

pub put_part-requires-clause-part : goal.put_part-requires-clause-part
put_part-requires-clause-part c =
    is_part c.args.strip.now c.fill.new.windows c.as_slice.ensures.value c.fill.ensures.long c.fill.ensures.rows (omega (arith, c.count.ensures.low, c.count.ensures.value))
