use Rattle.jpg_cli.specs.Tools.ShowingRows.{more_read}
use Rattle.jpg_cli.proofs.ByRow.RowsRead.{fed_more}
use Rattle.jpg_cli.proofs.tools.djpeg_rows.draw_next.Goals as goal

pub draw_piece-requires-clause-draws : goal.draw_piece-requires-clause-draws
draw_piece-requires-clause-draws g c =
    let w = c.requires.reads in
    let fed = c.feed_row-answer.ensures in
    record { asked = w.asked; run = more_read w.run c.args.piece.now; rows = w.rows; showing = fed_more c.feed_row-answer.result c.feed_row-answer.new.self w.next c.are_bytes.ensures fed.answered fed.limits }

pub returns-clause-drawn : goal.returns-clause-drawn
returns-clause-drawn g c = λ s run m k.
    let fed = c.feed_row-answer.ensures in
    c.draw_piece.ensures.drawn s (more_read run c.args.piece.now) m (fed_more c.feed_row-answer.result c.feed_row-answer.new.self k c.are_bytes.ensures fed.answered fed.limits)
