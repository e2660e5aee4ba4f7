use Rattle.std.proofs.lemmas.Result.{err_from_is_err_and}
use Rattle.jpg_color.proofs.RowsSending.{sends_none_yet, takes_row, row_goes, ready_sent, ready_stopped}
use Rattle.jpg_color.proofs.Showing.{fits_so, sent_so}
use Rattle.jpg_color.proofs.decode.strip_image.send_ready.Goals as goal

pub loop-strips-init : goal.loop-strips-init
loop-strips-init g c = (sends_none_yet c.checked.ensures c.requires.some c.requires.end c.requires.created, λ few. few)

pub send_row-requires-clause-end : goal.send_row-requires-clause-end
send_row-requires-clause-end g c = fits_so c.row.ensures (takes_row c.loop-strips.invariant.0 c.loop-strips-test.ensures)

pub loop-strips-preserved : goal.loop-strips-preserved
loop-strips-preserved g c =
    (row_goes c.loop-strips.invariant.0 c.loop-strips-test.ensures (sent_so c.row.ensures c.in_ok-send_row.ensures.sends), λ few. c.in_ok-send_row.ensures.few (c.loop-strips.invariant.1 few))

pub returns-in_err-send_row-clause-sends : goal.returns-in_err-send_row-clause-sends
returns-in_err-send_row-clause-sends g c =
    let back = err_from_is_err_and c.from_residual.result c.from_residual.ensures.1 in
    rw (back.1, back.2) (ready_stopped c.loop-strips.invariant.0 c.loop-strips-test.ensures (sent_so c.row.ensures c.in_err-send_row.ensures.sends))

pub returns-clause-sends : goal.returns-clause-sends
returns-clause-sends g c = ready_sent c.loop-strips.invariant.0 c.loop-strips-test.ensures
