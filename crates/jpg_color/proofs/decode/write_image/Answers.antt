use Rattle.std.proofs.lemmas.Result.{err_from_is_err_and}
use Rattle.jpg_pnm_bmp.specs.EndState.{EndState}
use Rattle.jpg_color.specs.DecodeRows.{rows_in_all}
use Rattle.jpg_color.proofs.Decoded.{can_finish, decodes_none, end_stop, image_finished, image_sent, is_begun, rows_stop}
use Rattle.jpg_color.proofs.decode.write_image.Goals as goal

pub returns-in_default-clause-written : goal.returns-in_default-clause-written
returns-in_default-clause-written g c =
    let e : EndState = (goal.ImageEnd-dyn g (c.args.end.now.vtable, c.args.end.now.value)).progress c.args.end.now.value in
    decodes_none e.kind c.args.info.now (rows_in_all c.args.rows.now)

pub returns-in_err-send_rows-clause-written : goal.returns-in_err-send_rows-clause-written
returns-in_err-send_rows-clause-written g c =
    let back = err_from_is_err_and c.from_residual.result c.from_residual.ensures.1 in
    let e : EndState = (goal.ImageEnd-dyn g (c.args.end.now.vtable, c.args.end.now.value)).progress c.args.end.now.value in
    rw (back.1, back.2) (rows_stop (is_begun e c.requires.out c.in-Ok.ensures) c.in_err-send_rows.ensures)

pub send_end-requires-clause-end : goal.send_end-requires-clause-end
send_end-requires-clause-end g c =
    let e : EndState = (goal.ImageEnd-dyn g (c.args.end.now.vtable, c.args.end.now.value)).progress c.args.end.now.value in
    can_finish e c.requires.rows c.in-Ok.ensures.0 c.in_ok-send_rows.ensures.end

pub returns-in_err-send_end-clause-written : goal.returns-in_err-send_end-clause-written
returns-in_err-send_end-clause-written g c =
    let back = err_from_is_err_and c.from_residual-in_err-send_end.result c.from_residual-in_err-send_end.ensures.1 in
    let e : EndState = (goal.ImageEnd-dyn g (c.args.end.now.vtable, c.args.end.now.value)).progress c.args.end.now.value in
    rw (back.1, back.2) (end_stop (is_begun e c.requires.out c.in-Ok.ensures) c.in_ok-send_rows.ensures c.in_err-send_end.ensures.sent)

pub returns-clause-written : goal.returns-clause-written
returns-clause-written g c =
    let e : EndState = (goal.ImageEnd-dyn g (c.args.end.now.vtable, c.args.end.now.value)).progress c.args.end.now.value in
    image_sent (is_begun e c.requires.out c.in-Ok.ensures) c.in_ok-send_rows.ensures c.in_ok-send_end.ensures.sent c.send.ensures.sent c.send.ensures.all

pub returns-clause-end : goal.returns-clause-end
returns-clause-end g c =
    let e : EndState = (goal.ImageEnd-dyn g (c.args.end.now.vtable, c.args.end.now.value)).progress c.args.end.now.value in
    image_finished e (rows_in_all c.args.rows.now) c.send.result c.in-Ok.ensures.0 c.in_ok-send_rows.ensures.end c.in_ok-send_end.ensures.end
