use Rattle.std.proofs.Common.{refl, arith, None, Some}
use Rattle.jpg_seq.specs.Work.{env_by}
use Rattle.jpg_seq.specs.Source.{bits_in}
use Rattle.jpg_seq.specs.declared.source.Source.{Source}
use Rattle.jpg_seq.proofs.Takings.{then_at_hand, covered_done, one_grows, one_taken}
use Rattle.jpg_seq.proofs.work.UnitWork.values_by_ten.Goals as goal

pub returns-in-Some-clause-takes : goal.returns-in-Some-clause-takes
returns-in-Some-clause-takes c =
    let i = c.loop-here.invariant in
    let e = env_by c.args.env.now in
    let new : Source = record (c.more.new.self) { store = c.value_by_ten.new.store } in
    let k = one_taken e c.loop-here.self c.value_by_ten.new.self c.more.new.self.store c.value_by_ten.new.store (Some c.in-Some.end) i.none (c.value_by_ten.ensures.takes c.if-not-value_by_ten.false) c.in-Some.ensures in
    then_at_hand e c.args.self.now c.loop-here.self c.value_by_ten.new.self (bits_in c.args.source.now) c.loop-here.here c.more.new.self new (Some c.in-Some.end) i.takes c.more.ensures (λ is. absurd (covered_done c.value_by_ten.new.self (Some c.in-Some.end) c.in-Some.ensures is)) k refl

pub loop-here-preserved : goal.loop-here-preserved
loop-here-preserved c =
    let i = c.loop-here.invariant in
    let e = env_by c.args.env.now in
    let new : Source = record (c.more.new.self) { store = c.value_by_ten.new.store } in
    let t = c.value_by_ten.ensures.takes c.if-not-value_by_ten.false in
    let k = one_taken e c.loop-here.self c.value_by_ten.new.self c.more.new.self.store c.value_by_ten.new.store None i.none t c.in_default.ensures in
    let grows = one_grows e c.loop-here.self c.value_by_ten.new.self c.more.new.self.store c.value_by_ten.new.store t in
    record {
      some = omega (arith, grows);
      less = k.3.0;
      none = k.3.1;
      more = omega (arith, grows, i.more);
      takes = then_at_hand e c.args.self.now c.loop-here.self c.value_by_ten.new.self (bits_in c.args.source.now) c.loop-here.here c.more.new.self new None i.takes c.more.ensures (λ is. absurd cc) k refl;
    }
