use Rattle.std.proofs.Common.{◌+◌, ◌<◌, ◌≤◌, subst, arith}
use Rattle.std.specs.Prelude.{Ok, Err}
use Rattle.jpg_coefs.specs.Machine.{Step}
use Rattle.jpg_coefs.specs.declared.machine.UnitStep.{UnitStep}
use Rattle.jpg_coefs.specs.declared.machine.UnitStep.TheVariants.{More, IntervalDone}
use Rattle.jpg_prog_read.specs.BitsTaken.{KeepsSome}
use Rattle.jpg_prog_read.proofs.Takings.{HurriesTo, bit_next, took_none, took_further, takes_all, took_more, takes_to}
use Rattle.jpg_prog_read.proofs.dc_bits.take_bits.Goals as goal

pub loop-machine-init : goal.loop-machine-init
loop-machine-init g c = took_none c.requires.some c.requires.open

pub returns-then-len-eq0 : goal.returns-then-len-eq0
returns-then-len-eq0 g c = takes_all (took_further c.loop-machine.invariant c.hurry.ensures) (omega (arith, c.if-len-eq0.true, c.len-in-loop-machine.ensures.value))

pub one_bit-requires : goal.one_bit-requires
one_bit-requires g c =
    let behind = took_further c.loop-machine.invariant c.hurry.ensures in
    record { «open» = (behind.interval, behind.bits, behind.standing) }

pub returns-in-Err : goal.returns-in-Err
returns-in-Err g c =
    let l = c.loop-machine in
    let h = bit_next c.bit-bit.result c.skip.new.self c.hurry.ensures (omega (arith, c.if-len-eq0.false, c.len-in-loop-machine.ensures.value)) c.bit-bit.ensures c.skip.ensures in
    let to : HurriesTo g.M.BitMachine.kind l.machine l.coefs l.store (Err c.in-Err.fault) c.one_bit.new.self c.one_bit.new.coefs c.skip.new.self =
    record { mid = c.hurry.new.self; bit = c.bit-bit.result; hurries = h; answered = c.in-Err.ensures.step } in
    takes_to l.invariant to

pub returns-in-Ok-IntervalDone : goal.returns-in-Ok-IntervalDone
returns-in-Ok-IntervalDone g c =
    let l = c.loop-machine in
    let h = bit_next c.bit-bit.result c.skip.new.self c.hurry.ensures (omega (arith, c.if-len-eq0.false, c.len-in-loop-machine.ensures.value)) c.bit-bit.ensures c.skip.ensures in
    let S : UnitStep → Type 0 = λ s. Step g.M.BitMachine.kind c.hurry.new.self l.coefs c.bit-bit.result (Ok s) c.one_bit.new.self c.one_bit.new.coefs in
    let to : HurriesTo g.M.BitMachine.kind l.machine l.coefs l.store (Ok IntervalDone) c.one_bit.new.self c.one_bit.new.coefs c.skip.new.self =
    record { mid = c.hurry.new.self; bit = c.bit-bit.result; hurries = h; answered = subst S c.in-Ok-IntervalDone.field-0-is c.in-Ok-IntervalDone.ensures.step } in
    takes_to l.invariant to

pub returns-then-saturating_sub-most : goal.returns-then-saturating_sub-most
returns-then-saturating_sub-most g c =
    let l = c.loop-machine in
    let k = g.M.BitMachine.kind in
    let h = bit_next c.bit-bit.result c.skip.new.self c.hurry.ensures (omega (arith, c.if-len-eq0.false, c.len-in-loop-machine.ensures.value)) c.bit-bit.ensures c.skip.ensures in
    let S : UnitStep → Type 0 = λ s. Step k c.hurry.new.self l.coefs c.bit-bit.result (Ok s) c.one_bit.new.self c.one_bit.new.coefs in
    let to : HurriesTo k l.machine l.coefs l.store (Ok More) c.one_bit.new.self c.one_bit.new.coefs c.skip.new.self =
    record { mid = c.hurry.new.self; bit = c.bit-bit.result; hurries = h; answered = subst S c.in-Ok-More.field-0-is c.in-Ok-More.ensures.step } in
    let enough : k.left c.one_bit.new.self + c.args.most ≤ k.left c.args.machine.now =
    omega (arith, c.requires.some, c.count_left-before.ensures, c.count_left.ensures, c.saturating_sub.ensures, c.if-saturating_sub-most.true) in
    let t = takes_to l.invariant to in
    (t.0, t.1, (t.2, enough, subst (λ (s : UnitStep). KeepsSome (Ok s) (k.left c.one_bit.new.self)) c.in-Ok-More.field-0-is c.in-Ok-More.ensures.some))

pub loop-machine-preserved : goal.loop-machine-preserved
loop-machine-preserved g c =
    let l = c.loop-machine in
    let k = g.M.BitMachine.kind in
    let h = bit_next c.bit-bit.result c.skip.new.self c.hurry.ensures (omega (arith, c.if-len-eq0.false, c.len-in-loop-machine.ensures.value)) c.bit-bit.ensures c.skip.ensures in
    let S : UnitStep → Type 0 = λ s. Step k c.hurry.new.self l.coefs c.bit-bit.result (Ok s) c.one_bit.new.self c.one_bit.new.coefs in
    let to : HurriesTo k l.machine l.coefs l.store (Ok More) c.one_bit.new.self c.one_bit.new.coefs c.skip.new.self =
    record { mid = c.hurry.new.self; bit = c.bit-bit.result; hurries = h; answered = subst S c.in-Ok-More.field-0-is c.in-Ok-More.ensures.step } in
    let few : k.left c.args.machine.now < k.left c.one_bit.new.self + c.args.most =
    omega (arith, c.count_left-before.ensures, c.count_left.ensures, c.saturating_sub.ensures, c.if-saturating_sub-most.false) in
    took_more l.invariant to few
