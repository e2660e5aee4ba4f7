use Rattle.std.proofs.lemmas.Result.{err_from_is_err_and}
use Rattle.jpg_color.proofs.Decoded.{if_ok}
use Rattle.jpg_color.proofs.Drawn.{ends}
use Rattle.jpg_color.proofs.Sent.{sends_rest}
use Rattle.jpg_color.proofs.decode.strip_image.StripImage.finish.Goals as goal

pub returns-in_err-send_end : goal.returns-in_err-send_end
returns-in_err-send_end g c =
    let back = err_from_is_err_and c.from_residual.result c.from_residual.ensures.1 in
    rw (back.1, back.2) (ends c.self.view_is c.in_err-send_end.ensures.sent tt tt)

pub returns : goal.returns
returns g c =
    ends c.self.view_is (sends_rest c.in_ok-send_end.ensures.sent c.send_any.ensures.sent) c.send_any.ensures.all
    (if_ok c.send_any.result c.in_ok-send_end.ensures.end)
