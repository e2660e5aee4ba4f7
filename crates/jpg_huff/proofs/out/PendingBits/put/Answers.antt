use Rattle.std.proofs.Common.{◌+◌, ◌<◌, ◌^◌, ap, arith, subst}
use Rattle.std.proofs.lemmas.Nat.{pow_below}
use Rattle.jpg_huff.specs.BitOut.{waiting}
use Rattle.jpg_huff.proofs.Putting.{JoinedBits, FilledBits, number_is, number_fits, puts_held, puts_out, puts_fault}
use Rattle.jpg_huff.proofs.out.PendingBits.put.Goals as goal

pub invariant_of-result : goal.invariant_of-result
invariant_of-result g c =
    let w = c.self.inside in
    let e = number_is w.word w.count c.args.count c.args.bits c.from.result c.self.invariant.1 (omega (arith, c.if-total-lt64.true)) c.from.ensures in
    (c.if-total-lt64.true, number_fits w.word w.count c.args.count c.args.bits _ c.self.invariant.1 c.requires.bits e)

pub overflow_add-result : goal.overflow_add-result
overflow_add-result g c =
    let w = c.self.inside in
    let e = number_is w.word w.count c.args.count c.args.bits c.from.result c.self.invariant.1 (omega (arith, c.if-total-lt64.true)) c.from.ensures in
    let fits = number_fits w.word w.count c.args.count c.args.bits _ c.self.invariant.1 c.requires.bits e in
    let room = pow_below (w.count + c.args.count) 64 c.if-total-lt64.true in
    record { fits = omega (arith, fits, room) }

pub returns-then-total-lt64 : goal.returns-then-total-lt64
returns-then-total-lt64 g c =
    let state = g.D.Desk.state in
    let w = c.self.inside in
    let e = number_is w.word w.count c.args.count c.args.bits c.from.result c.self.invariant.1 (omega (arith, c.if-total-lt64.true)) c.from.ensures in
    let j : JoinedBits = record { word = w.word; count = w.count; more = c.args.count; bits = c.args.bits; all = _; fits = c.requires.bits; joined = e } in
    puts_held (state c.args.desk.now) (waiting c.args.buffer.now c.args.self) c.args.buffer.now j (ap (waiting c.args.buffer.now) c.self.view_is)

pub returns-in-Ok : goal.returns-in-Ok
returns-in-Ok g c =
    let state = g.D.Desk.state in
    let w = c.self.inside in
    let j : FilledBits =
    record {
      word = w.word;
      count = w.count;
      more = c.args.count;
      bits = c.args.bits;
      first = c.filled-word.result;
      enough = omega (arith, c.if-total-lt64.false);
      few = omega (arith, c.self.invariant.0, c.requires.count);
      filled = c.filled-word.ensures;
    } in
    puts_out (state c.args.desk.now) (state c.push_word.new.desk) (waiting c.args.buffer.now c.args.self) c.args.buffer.now c.push_word.new.self j c.from-in-Ok.result
    (ap (waiting c.args.buffer.now) c.self.view_is) c.from-in-Ok.ensures c.in-Ok.ensures.kept c.in-Ok.ensures.emits

pub returns-in-Err : goal.returns-in-Err
returns-in-Err g c =
    let state = g.D.Desk.state in
    let w = c.self.inside in
    let j : FilledBits =
    record {
      word = w.word;
      count = w.count;
      more = c.args.count;
      bits = c.args.bits;
      first = c.filled-word.result;
      enough = omega (arith, c.if-total-lt64.false);
      few = omega (arith, c.self.invariant.0, c.requires.count);
      filled = c.filled-word.ensures;
    } in
    puts_fault (state c.args.desk.now) (state c.push_word.new.desk) (waiting c.args.buffer.now c.args.self) c.args.buffer.now c.push_word.new.self j c.in-Err.fault
    (ap (waiting c.args.buffer.now) c.self.view_is) c.in-Err.ensures.kept c.in-Err.ensures.emits
