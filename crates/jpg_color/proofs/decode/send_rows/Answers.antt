use Rattle.std.proofs.lemmas.Result.{err_from_is_err_and}
use Rattle.jpg_color.proofs.Showing.{shows_none, row_fits, fits_so, row_sent, sent_so, rows_sent, rows_stopped, fewer_rows}
use Rattle.jpg_color.proofs.decode.send_rows.Goals as goal

pub loop-rows-init : goal.loop-rows-init
loop-rows-init g c = shows_none c.requires.end c.requires.created

pub send_row-requires-clause-end : goal.send_row-requires-clause-end
send_row-requires-clause-end g c = fits_so c.row.ensures (row_fits c.loop-rows.invariant c.loop-rows-test.ensures)

pub send_row-requires-clause-created : goal.send_row-requires-clause-created
send_row-requires-clause-created g c = c.loop-rows.invariant.created

pub loop-rows-smaller : goal.loop-rows-smaller
loop-rows-smaller g c = fewer_rows c.loop-rows-test.ensures

pub loop-rows-preserved : goal.loop-rows-preserved
loop-rows-preserved g c = row_sent c.loop-rows.invariant c.loop-rows-test.ensures (sent_so c.row.ensures c.in_ok-send_row.ensures.sends)

pub returns-in_err-send_row : goal.returns-in_err-send_row
returns-in_err-send_row g c =
    let back = err_from_is_err_and c.from_residual.result c.from_residual.ensures.1 in
    rw (back.1, back.2) (rows_stopped c.loop-rows.invariant c.loop-rows-test.ensures (sent_so c.row.ensures c.in_err-send_row.ensures.sends))

pub returns : goal.returns
returns g c = rows_sent c.loop-rows.invariant c.loop-rows-test.ensures
