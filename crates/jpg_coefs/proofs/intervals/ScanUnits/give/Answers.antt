use Rattle.std.proofs.Common.{◌≡◌, ◌≤◌, ◌+◌, ◌-◌, drop, Ok, refl, sym, ap, ◌∙◌, subst, arith}
use Rattle.std.proofs.lemmas.Result.{err_from_is_err_and}
use Rattle.jpg_coefs.specs.Sinks.{at}
use Rattle.jpg_coefs.proofs.ScanGiven.{after_last, after_some, stepped, can_go_on, ends_there, fault_there, four_there, more_there, next_interval_there, next_there, open_there, real_there, turn_fault}
use Rattle.jpg_coefs.proofs.intervals.ScanUnits.give.Goals as goal
use Rattle.jpg_coefs.proofs.intervals.ScanUnits.give.Goals.{then-self-eq0-2+in_ok-end, else-self-eq0-2}

pub put_place-requires-clause-real : goal.put_place-requires-clause-real
put_place-requires-clause-real g c = real_there c.loop-self.invariant.some (c.loop-self.invariant.can c.requires.can.0 c.requires.can.1) c.place.result c.place.ensures

pub put_place-requires-clause-four : goal.put_place-requires-clause-four
put_place-requires-clause-four g c = four_there c.loop-self.invariant.some (c.loop-self.invariant.can c.requires.can.0 c.requires.can.1) c.place.result c.place.ensures

pub put_place-requires-clause-next : goal.put_place-requires-clause-next
put_place-requires-clause-next g c = next_there c.loop-self.invariant.some (c.loop-self.invariant.can c.requires.can.0 c.requires.can.1) c.place.result c.place.ensures

pub returns-in_err-put_place-clause-given : goal.returns-in_err-put_place-clause-given
returns-in_err-put_place-clause-given g c = λ r can.
    let back = err_from_is_err_and c.from_residual.result c.from_residual.ensures.1 in
    rw (back.1, back.2)
    (fault_there c.loop-self.invariant.some (c.loop-self.invariant.can r can) c.place.result c.place.ensures c.put_place.new.last (at c.put_place.new.sink c.put_place.new.out c.put_place.new.desk) c.in_err-put_place.field-0.0 c.in_err-put_place.ensures)

pub end-requires-clause-open : goal.end-requires-clause-open
end-requires-clause-open g c =
    open_there c.loop-self.invariant.some (c.loop-self.invariant.can c.requires.can.0 c.requires.can.1) c.place.result c.place.ensures c.put_place.new.last _ c.step.new.self c.step.ensures c.in_ok-put_place.ensures

pub returns-then-self-eq0-clause-given : goal.returns-then-self-eq0-clause-given
returns-then-self-eq0-clause-given g c = λ r can.
    let i = c.loop-self.invariant in
    let all : c.args.next.count ≡ c.args.self.now.left = omega (arith, i.some, i.few, i.sum, c.if-self-eq0.true) in
    let new = at c.put_place.new.sink c.put_place.new.out c.put_place.new.desk in
    let later = at c.end.new.self c.end.new.out c.end.new.desk in
    after_last g.S.UnitSink.kind r c.args.next.count c.args.self.now.left c.end.result _ later all
    (ends_there i.some (i.can r can) c.place.result c.place.ensures c.put_place.new.last new c.step.new.self c.step.ensures c.in_ok-put_place.ensures c.end.result later c.if-self-eq0.true c.end.ensures)

pub end-requires-then-self-eq0-2-clause-open : goal.end-requires-then-self-eq0-2-clause-open
end-requires-then-self-eq0-2-clause-open g c =
    open_there c.loop-self.invariant.some (c.loop-self.invariant.can c.requires.can.0 c.requires.can.1) c.place.result c.place.ensures c.put_place.new.last _ c.step.new.self c.step.ensures c.in_ok-put_place.ensures

pub returns-in_err-end-clause-given : goal.returns-in_err-end-clause-given
returns-in_err-end-clause-given g c = λ r can.
    let i = c.loop-self.invariant in
    let more : 1 ≤ c.loop-self.self.left - 1 = omega (arith, i.some, i.few, c.if-self-eq0.false) in
    let new = at c.put_place.new.sink c.put_place.new.out c.put_place.new.desk in
    let later = at c.end-then-self-eq0-2.new.self c.end-then-self-eq0-2.new.out c.end-then-self-eq0-2.new.desk in
    let back = err_from_is_err_and c.from_residual-in_err-end.result c.from_residual-in_err-end.ensures.1 in
    rw (back.1, back.2)
    (turn_fault i.some (i.can r can) c.place.result c.place.ensures c.put_place.new.last new c.step.new.self c.step.ensures c.in_ok-put_place.ensures later c.in_err-end.field-0.0 more c.if-self-eq0-2.true c.in_err-end.ensures)

pub returns-then-rest-eq0-clause-given : goal.returns-then-rest-eq0-clause-given
returns-then-rest-eq0-clause-given g c = λ r can.
    let i = c.loop-self.invariant in
    let k = g.S.UnitSink.kind in
    let more : 1 ≤ c.loop-self.self.left - 1 = omega (arith, i.some, i.few, c.if-self-eq0.false) in
    let sum : c.loop-self.self.left - 1 + c.args.next.count ≡ c.args.self.now.left = omega (arith, i.some, i.few, i.sum, more, c.if-rest-eq0.true) in
    let new = at c.put_place.new.sink c.put_place.new.out c.put_place.new.desk in
    elim c.if-self-eq0-2.branch [
      | then-self-eq0-2+in_ok-end w ↦ rw (w.self-is, w.sink-is, w.out-is, w.desk-is) (after_some k r c.args.next.count c.args.self.now.left _ _ more sum
          (next_interval_there i.some (i.can r can) c.place.result c.place.ensures c.put_place.new.last new c.step.new.self c.step.ensures c.in_ok-put_place.ensures _ more w.if-self-eq0-2.true w.in_ok-end.ensures))
      | else-self-eq0-2 w ↦ rw (w.self-is, w.sink-is, w.out-is, w.desk-is) (after_some k r c.args.next.count c.args.self.now.left _ _ more sum
          (more_there i.some (i.can r can) c.place.result c.place.ensures c.put_place.new.last new c.step.new.self c.step.ensures c.in_ok-put_place.ensures c.put_place.array_long more (omega (arith, w.if-self-eq0-2.false))))
    ]

pub returns-then-rest-eq0-clause-cursor : goal.returns-then-rest-eq0-clause-cursor
returns-then-rest-eq0-clause-cursor g c =
    let i = c.loop-self.invariant in
    let places = c.args.self.now.cursor in
    let none : c.args.next.count - (c.loop-self.rest - 1) ≡ c.args.next.count = omega (arith, c.if-rest-eq0.true) in
    let now : c.step.new.self ≡ drop c.args.next.count places = c.step.ensures ∙ stepped places i.some i.most i.cursor ∙ ap (λ m. drop m places) none in
    elim c.if-self-eq0-2.branch [
      | then-self-eq0-2+in_ok-end w ↦ rw w.self-is now
      | else-self-eq0-2 w ↦ rw w.self-is now
    ]

pub loop-self-preserved : goal.loop-self-preserved
loop-self-preserved g c =
    let i = c.loop-self.invariant in
    let more : 1 ≤ c.loop-self.self.left - 1 = omega (arith, i.some, i.few, c.if-self-eq0.false) in
    let new = at c.put_place.new.sink c.put_place.new.out c.put_place.new.desk in
    elim c.if-self-eq0-2.branch [
      | then-self-eq0-2+in_ok-end w ↦ rw (w.self-is, w.sink-is, w.out-is, w.desk-is) (record {
        some = omega (arith, i.some, c.if-rest-eq0.false);
        few = omega (arith, i.few);
        sum = omega (arith, i.some, i.sum, more);
        most = omega (arith, i.most);
        cursor = c.step.ensures ∙ stepped c.args.self.now.cursor i.some i.most i.cursor;
        can = λ r can. can_go_on i.some (i.can r can) c.place.result c.place.ensures c.put_place.new.last new c.step.new.self c.step.ensures c.in_ok-put_place.ensures _ _ refl
            (next_interval_there i.some (i.can r can) c.place.result c.place.ensures c.put_place.new.last new c.step.new.self c.step.ensures c.in_ok-put_place.ensures _ more w.if-self-eq0-2.true w.in_ok-end.ensures);
      })
      | else-self-eq0-2 w ↦ rw (w.self-is, w.sink-is, w.out-is, w.desk-is) (record {
        some = omega (arith, i.some, c.if-rest-eq0.false);
        few = omega (arith, i.few);
        sum = omega (arith, i.some, i.sum, more);
        most = omega (arith, i.most);
        cursor = c.step.ensures ∙ stepped c.args.self.now.cursor i.some i.most i.cursor;
        can = λ r can. can_go_on i.some (i.can r can) c.place.result c.place.ensures c.put_place.new.last new c.step.new.self c.step.ensures c.in_ok-put_place.ensures _ _ refl
            (more_there i.some (i.can r can) c.place.result c.place.ensures c.put_place.new.last new c.step.new.self c.step.ensures c.in_ok-put_place.ensures c.put_place.array_long more (omega (arith, w.if-self-eq0-2.false)));
      })
    ]
