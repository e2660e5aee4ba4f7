use Rattle.std.proofs.Common.{[], ap, sym, ◌∙◌, subst, Err}
use Rattle.std.proofs.lemmas.Result.{err_from_is_err_and}
use Rattle.jpg_spec.specs.Bits.{bits_of, stuffed, whole_bytes}
use Rattle.jpg_huff.specs.Out.{Emits}
use Rattle.jpg_huff.proofs.Emitted.{emits_fault, emits_more}
use Rattle.jpg_huff.proofs.buffer.Buffer.push_word.Goals as goal

pub returns-in_err-make_room-clause-emits : goal.returns-in_err-make_room-clause-emits
returns-in_err-make_room-clause-emits g c =
    let state = g.D.Desk.state in
    let back = err_from_is_err_and c.from_residual.result c.from_residual.ensures.1 in
    subst (λ r. Emits (state c.args.desk.now) c.args.self.now (stuffed (whole_bytes (bits_of 64 c.args.word))) r c.make_room.new.self (state c.make_room.new.desk)) (sym (back.1 ∙ ap Err back.2))
    (emits_fault (state c.args.desk.now) (state c.make_room.new.desk) c.args.self.now [] (stuffed (whole_bytes (bits_of 64 c.args.word))) c.make_room.new.self c.in_err-make_room.field-0.0 c.in_err-make_room.ensures.emits)

pub returns-clause-emits : goal.returns-clause-emits
returns-clause-emits g c =
    let state = g.D.Desk.state in
    emits_more (state c.args.desk.now) (state c.make_room.new.desk) c.args.self.now c.make_room.new.self (stuffed (whole_bytes (bits_of 64 c.args.word))) c.add_word.new.self c.in_ok-make_room.ensures.emits c.add_word.ensures
