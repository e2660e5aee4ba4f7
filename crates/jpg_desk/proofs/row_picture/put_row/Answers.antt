use Rattle.std.proofs.Common.{subst}
use Rattle.jpg_spec.specs.Geometry.{Frame}
use Rattle.jpg_coefs.specs.Copied.{CopiesBlocks}
use Rattle.jpg_desk.specs.RowsKept.{in_part, row_blocks}
use Rattle.jpg_desk.proofs.RowsKept.{parts_more}
use Rattle.jpg_desk.proofs.row_picture.put_row.Goals as goal

pub loop-i-preserved : goal.loop-i-preserved
loop-i-preserved c =
    let f = c.args.coefs.now.frame in
    let k = c.args.k in
    let i = c.loop-i.i in
    let row = c.args.row.now in
    parts_more f k i (row_blocks f k row) c.args.coefs.now c.loop-i.coefs c.put_part.new.coefs c.loop-i.invariant
    (subst (λ (h : Frame). CopiesBlocks (in_part h k i) (row_blocks h k row) c.loop-i.coefs c.put_part.new.coefs) (c.loop-i.invariant).frame c.put_part.ensures)
