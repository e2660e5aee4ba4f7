use Rattle.std.proofs.Common.{sym, subst}
use Rattle.std.proofs.lemmas.Result.{err_from_is_err_and}
use Rattle.jpg_huff.proofs.Together.{puts_pad, sends_then}
use Rattle.jpg_coefs.specs.BitSinks.{PutsEnd}
use Rattle.jpg_coefs.proofs.BitSinks.{pad_fault}
use Rattle.jpg_coefs.proofs.end.end_interval.Goals as goal

pub returns-in_err-pad : goal.returns-in_err-pad
returns-in_err-pad g c =
    let state = g.D.Desk.state in
    let back = err_from_is_err_and c.from_residual.result c.from_residual.ensures.1 in
    rw (back.1, back.2) (pad_fault c.args.marker (state c.args.desk.now) (state c.pad.new.desk) c.args.out.now c.pad.new.self c.in_err-pad.field-0.0 c.in_err-pad.ensures)

pub returns-in-Some : goal.returns-in-Some
returns-in-Some g c =
    let state = g.D.Desk.state in
    subst (λ m. PutsEnd m (state c.args.desk.now) c.args.out.now c.raw.result c.raw.new.self (state c.raw.new.desk)) (sym c.in-Some.is)
    (λ s0 o0 bits none h.
    sends_then s0 (state c.pad.new.desk) (state c.raw.new.desk) o0 c.pad.new.self c.raw.new.self _ _ c.raw.result
    (puts_pad s0 (state c.args.desk.now) (state c.pad.new.desk) o0 c.args.out.now c.pad.new.self bits _ none h c.in_ok-pad.ensures) c.raw.ensures)
