use Rattle.std.proofs.Common.{Err, Ok, sym, subst}
use Rattle.jpg_huff.specs.BitOut.{Puts, holding}
use Rattle.jpg_prog_write.specs.Items.{spelled}
use Rattle.jpg_prog_write.specs.Putting.{ac_codes}
use Rattle.jpg_prog_write.proofs.After.{still_held}
use Rattle.jpg_prog_write.proofs.put.put_last.Goals as goal

pub returns-in-Ok : goal.returns-in-Ok
returns-in-Ok g c = λ e is.
    let state = g.D.Desk.state in
    let text = spelled (ac_codes c.args.codes) e in
    let same = still_held c.args.out.now c.take-held.new.self c.take-held.result c.take-held.ensures.held c.take-held.ensures.left in
    subst (λ w. Puts (state c.args.desk.now) w text (Ok tt) c.give.new.self (state c.put_item.new.desk)) same
    (subst (λ w. Puts (state c.args.desk.now) (holding c.take-held.new.self c.take-held.result) text (Ok tt) w (state c.put_item.new.desk)) (sym c.give.ensures) (c.in-Ok.ensures.puts e is))

pub returns-in-Err : goal.returns-in-Err
returns-in-Err g c = λ e is.
    let state = g.D.Desk.state in
    let text = spelled (ac_codes c.args.codes) e in
    let same = still_held c.args.out.now c.take-held.new.self c.take-held.result c.take-held.ensures.held c.take-held.ensures.left in
    subst (λ w. Puts (state c.args.desk.now) w text (Err c.in-Err.fault) c.put_item.new.out (state c.put_item.new.desk)) same
    (subst (λ bits. Puts (state c.args.desk.now) (holding c.take-held.new.self c.take-held.result) text (Err c.in-Err.fault) (holding c.put_item.new.out bits) (state c.put_item.new.desk)) (sym c.in-Err.ensures.none) (c.in-Err.ensures.puts e is))
