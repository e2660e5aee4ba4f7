use Rattle.std.proofs.Common.{◌+◌, Bool, Ok, inl, inr, take, subst, arith}
use Rattle.std.specs.Prelude.{Result}
use Rattle.std.proofs.lemmas.Result.{err_from_is_err_and}
use Rattle.jpg_base.specs.declared.stop.Stop.{Stop}
use Rattle.jpg_base.proofs.FedPiece.{at, some_fed}
use Rattle.jpg_base.proofs.intake.feed_piece.Goals as goal

pub returns-in_err-check_room : goal.returns-in_err-check_room
returns-in_err-check_room g c =
    let back = err_from_is_err_and c.from_residual.result c.from_residual.ensures.1 in
    rw (back.1, back.2) (c.loop-used.used, c.loop-used.invariant.0, inr (c.loop-used.invariant.1, c.in_err-check_room.ensures))

pub returns-in_err-check_room-2 : goal.returns-in_err-check_room-2
returns-in_err-check_room-2 g c =
    let back = err_from_is_err_and c.from_residual-in_err-check_room-2.result c.from_residual-in_err-check_room-2.ensures.1 in
    rw (back.1, back.2) (c.loop-used.used, c.loop-used.invariant.0, inr (c.loop-used.invariant.1, c.in_err-check_room-2.ensures))

pub returns-in_err-whole : goal.returns-in_err-whole
returns-in_err-whole g c =
    let k = g.I.Intake.kind c.args.intake.now in
    let from = at c.args.state.now c.args.out.now in
    let now = at c.take_some-n.new.state c.take_some-n.new.out in
    let n = c.loop-used.used + c.take_some-n.result.0 in
    let back = err_from_is_err_and c.from_residual-in_err-whole.result c.from_residual-in_err-whole.ensures.1 in
    let fed = some_fed k from c.args.piece.now c.loop-used.used (c.loop-used.state, c.loop-used.out) now c.take_some-n.result.0 c.take_some-n.result.1 c.loop-used.invariant.0 c.take_some-n.ensures.some.1 c.loop-used.invariant.1 c.take_some-n.ensures.takes in
    rw (back.1, back.2) (n, fed.0, inl (subst (λ (a : Result Bool Stop). k.after from (take n c.args.piece.now) a now) c.in_err-whole.was fed.1))

pub returns-then-branch : goal.returns-then-branch
returns-then-branch g c =
    let k = g.I.Intake.kind c.args.intake.now in
    let from = at c.args.state.now c.args.out.now in
    let now = at c.take_some-n.new.state c.take_some-n.new.out in
    let piece = c.args.piece.now in
    let n = c.loop-used.used + c.take_some-n.result.0 in
    let fed = some_fed k from piece c.loop-used.used (c.loop-used.state, c.loop-used.out) now c.take_some-n.result.0 c.take_some-n.result.1 c.loop-used.invariant.0 c.take_some-n.ensures.some.1 c.loop-used.invariant.1 c.take_some-n.ensures.takes in
    let some = c.take_some-n.ensures.some.0 in
    let whole = subst (λ (a : Result Bool Stop). k.after from (take n piece) a now) c.in_ok-whole.was fed.1 in
    (subst (λ (b : Bool). k.after from (take n piece) (Ok b) now) c.if-branch.true whole, omega (arith, some), fed.0)

pub loop-used-preserved : goal.loop-used-preserved
loop-used-preserved g c =
    let k = g.I.Intake.kind c.args.intake.now in
    let from = at c.args.state.now c.args.out.now in
    let now = at c.take_some-n.new.state c.take_some-n.new.out in
    let piece = c.args.piece.now in
    let n = c.loop-used.used + c.take_some-n.result.0 in
    let fed = some_fed k from piece c.loop-used.used (c.loop-used.state, c.loop-used.out) now c.take_some-n.result.0 c.take_some-n.result.1 c.loop-used.invariant.0 c.take_some-n.ensures.some.1 c.loop-used.invariant.1 c.take_some-n.ensures.takes in
    let whole = subst (λ (a : Result Bool Stop). k.after from (take n piece) a now) c.in_ok-whole.was fed.1 in
    (fed.0, subst (λ (b : Bool). k.after from (take n piece) (Ok b) now) c.if-branch.false whole)
