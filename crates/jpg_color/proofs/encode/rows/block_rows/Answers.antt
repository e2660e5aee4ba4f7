use Rattle.std.proofs.Common.{rules, ◌*◌, ◌∙◌}
use Rattle.jpg_color.specs.PlaneRows.{lower_row}
use Rattle.jpg_color.proofs.PlaneRows.{blocks_are, rows_more}
use Rattle.jpg_color.proofs.PlaneWindows.{eight_under}
use Rattle.jpg_color.proofs.encode.rows.block_rows.Goals as goal

pub put_plane_row-requires-clause-under : goal.put_plane_row-requires-clause-under
put_plane_row-requires-clause-under c = eight_under c.args.source.now.plane c.args.source.now.window c.args.source.now.made c.args.y c.loop-v.v c.requires.under (search rules)

pub loop-v-preserved : goal.loop-v-preserved
loop-v-preserved c =
    let plane = lower_row c.args.source.now.plane c.args.source.now.made in (
      c.put_plane_row.ensures.long ∙ c.loop-v.invariant.0,
      rows_more plane c.loop-v.out c.put_plane_row.new.out c.args.source.now.wide (8 * c.args.y) c.loop-v.v c.loop-v.invariant.1 c.put_plane_row.ensures.here
          c.put_plane_row.ensures.before,
    )

pub returns-clause-blocks : goal.returns-clause-blocks
returns-clause-blocks c =
    blocks_are (lower_row c.args.source.now.plane c.args.source.now.made) c.loop-v.out c.args.source.now.wide c.args.y c.loop-v.v (search rules) c.loop-v.invariant.1
