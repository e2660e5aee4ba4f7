use Rattle.std.proofs.Common.{arith}
use Rattle.jpg_color.proofs.BlockRows.{all_cut, block_more}
use Rattle.jpg_color.proofs.encode.block_row.BlockRow.of.Goals as goal

pub loop-x-preserved : goal.loop-x-preserved
loop-x-preserved c =
    let e = c.push_reserved.ensures in (
      block_more c.args.wide c.args.rows.now c.loop-x.x c.loop-x.invariant.0 e.items c.block_at.ensures,
      omega (arith, e.len, c.loop-x.invariant.1),
      omega (arith, e.capacity, c.loop-x.invariant.2),
    )

pub returns : goal.returns
returns c = all_cut c.args.wide c.args.rows.now {count = c.loop-x.x} c.loop-x.invariant.0 (omega (arith, c.loop-x-test.false, c.loop-x.auto.x-end))
