use Rattle.std.proofs.Common.{◌+◌, ◌-◌, ◌∙◌, arith}
use Rattle.jpg_pnm_bmp.proofs.FiveTurned.{five_at, five_more}
use Rattle.jpg_pnm_bmp.proofs.write.file_row.turn_fives.Goals as goal

pub loop-at-preserved : goal.loop-at-preserved
loop-at-preserved c =
    let l = c.loop-at in
    let i = l.invariant in
    let row = c.args.row.now in
    let n = five_more l.line row c.copy_from_slice.new.self l.at (l.at + 16 - l.at) (omega arith) c.loop-at-test.true (c.copy_from_slice.ensures.after ∙ c.five_turned-turned.ensures ∙ five_at row l.at (l.at + 16 - l.at) (omega arith))
    (record { inside = i.inside; long = i.long; rest = i.rest; turned = i.turned }) in
    record { inside = n.inside; long = n.long; rest = n.rest; turned = n.turned }
