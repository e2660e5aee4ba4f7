use Rattle.std.proofs.Common.{[], ◌≡◌, sym, subst, List, ℕ, Ok, Err, arith, ap, ◌∙◌}
use Rattle.std.proofs.lemmas.Result.{err_from_is_err_and}
use Rattle.jpg_huff.specs.Out.{Emits}
use Rattle.jpg_huff.proofs.Emitted.{emits_fault, emits_then, emits_written, emits_unwritten}
use Rattle.std.proofs.lemmas.List.{nil_from_length}
use Rattle.jpg_huff.proofs.buffer.Buffer.push_piece.Goals as goal

pub returns-in_err-make_room-clause-emits : goal.returns-in_err-make_room-clause-emits
returns-in_err-make_room-clause-emits g c =
    let state = g.D.Desk.state in
    let back = err_from_is_err_and c.from_residual.result c.from_residual.ensures.1 in
    subst (λ r. Emits (state c.args.desk.now) c.args.self.now c.args.piece.now r c.make_room.new.self (state c.make_room.new.desk)) (sym (back.1 ∙ ap Err back.2))
    (emits_fault (state c.args.desk.now) (state c.make_room.new.desk) c.args.self.now [] c.args.piece.now c.make_room.new.self c.in_err-make_room.field-0.0 c.in_err-make_room.ensures.emits)

pub returns-in-Done-clause-emits : goal.returns-in-Done-clause-emits
returns-in-Done-clause-emits g c =
    let state = g.D.Desk.state in
    let n : c.make_room.new.self ≡ [] = nil_from_length c.make_room.new.self (omega (arith, c.in_ok-make_room.ensures.room, c.min.ensures, c.if-piece-le4096.false)) in
    let P : List ℕ → Type 0 = λ mid. Emits (state c.make_room.new.desk) mid c.args.piece.now (Ok tt) mid (state c.write.new.self) in
    emits_then (state c.args.desk.now) (state c.make_room.new.desk) (state c.write.new.self) c.args.self.now [] c.make_room.new.self c.args.piece.now c.make_room.new.self (Ok tt)
    c.in_ok-make_room.ensures.kept c.in_ok-make_room.ensures.emits (subst P (sym n) (emits_written (state c.make_room.new.desk) (state c.write.new.self) c.args.piece.now c.in-Done.ensures))

pub returns-in-Failed-clause-emits : goal.returns-in-Failed-clause-emits
returns-in-Failed-clause-emits g c =
    let state = g.D.Desk.state in
    let n : c.make_room.new.self ≡ [] = nil_from_length c.make_room.new.self (omega (arith, c.in_ok-make_room.ensures.room, c.min.ensures, c.if-piece-le4096.false)) in
    let P : List ℕ → Type 0 = λ mid. Emits (state c.make_room.new.desk) mid c.args.piece.now (Err (record {})) mid (state c.write.new.self) in
    emits_then (state c.args.desk.now) (state c.make_room.new.desk) (state c.write.new.self) c.args.self.now [] c.make_room.new.self c.args.piece.now c.make_room.new.self (Err (record {}))
    c.in_ok-make_room.ensures.kept c.in_ok-make_room.ensures.emits (subst P (sym n) (emits_unwritten (state c.make_room.new.desk) (state c.write.new.self) c.args.piece.now (record {}) c.in-Failed.ensures))
