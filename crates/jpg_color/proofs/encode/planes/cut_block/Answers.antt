use Rattle.std.proofs.Common.{rules}
use Rattle.jpg_color.proofs.CutBlocks.{row_more, block_done, sub_row}
use Rattle.jpg_color.proofs.encode.planes.cut_block.Goals as goal

pub loop-v-preserved : goal.loop-v-preserved
loop-v-preserved c =
    let rows = c.args.rows.now in
    let wide = c.args.wide in (
      c.put_row.ensures.long,
      row_more rows c.loop-v.samples c.put_row.new.samples _ wide c.args.x c.loop-v.v c.loop-v.invariant.1 c.put_row.ensures.value
          (sub_row rows wide c.args.x c.loop-v.v c.requires.there c.requires.long (search rules)),
    )

pub returns : goal.returns
returns c = block_done c.args.rows.now c.loop-v.samples c.args.wide c.args.x c.loop-v.v (search rules) c.loop-v.invariant.0 c.loop-v.invariant.1
