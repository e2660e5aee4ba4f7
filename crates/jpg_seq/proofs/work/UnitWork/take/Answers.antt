use Rattle.std.proofs.Common.{refl, None, Some}
use Rattle.jpg_seq.specs.Work.{env_by}
use Rattle.jpg_seq.specs.Source.{bits_in}
use Rattle.jpg_seq.specs.declared.source.Source.{Source}
use Rattle.jpg_seq.proofs.Takings.{then_at_hand, takes_then}
use Rattle.jpg_seq.proofs.work.UnitWork.take.Goals as goal

pub returns-in-Some-element : goal.returns-in-Some-element
returns-in-Some-element c =
    let new : Source = record (c.fill.new.self) { store = c.element.new.store } in
    then_at_hand (env_by c.args.env.now) c.args.self.now c.loop-end.self c.element.new.self (bits_in c.args.source.now) c.loop-end.source c.fill.new.self new (Some c.in-Some-element.end) c.loop-end.invariant c.fill.ensures.same (λ is. c.fill.ensures.full (c.in-Some-element.ensures.few is)) c.in-Some-element.ensures.takes refl

pub returns-in-Some-values_by_ten : goal.returns-in-Some-values_by_ten
returns-in-Some-values_by_ten c =
    let e = env_by c.args.env.now in
    let mid : Source = record (c.fill.new.self) { store = c.element.new.store } in
    takes_then e c.args.self.now c.element.new.self c.values_by_ten.new.self (bits_in c.args.source.now) (bits_in mid) (bits_in c.values_by_ten.new.source) (Some c.in-Some-values_by_ten.end)
    (then_at_hand e c.args.self.now c.loop-end.self c.element.new.self (bits_in c.args.source.now) c.loop-end.source c.fill.new.self mid None c.loop-end.invariant c.fill.ensures.same (λ is. absurd cc) c.in_default-element.ensures.takes refl) c.in-Some-values_by_ten.ensures.takes

pub loop-end-preserved : goal.loop-end-preserved
loop-end-preserved c =
    let e = env_by c.args.env.now in
    let mid : Source = record (c.fill.new.self) { store = c.element.new.store } in
    takes_then e c.args.self.now c.element.new.self c.values_by_ten.new.self (bits_in c.args.source.now) (bits_in mid) (bits_in c.values_by_ten.new.source) None
    (then_at_hand e c.args.self.now c.loop-end.self c.element.new.self (bits_in c.args.source.now) c.loop-end.source c.fill.new.self mid None c.loop-end.invariant c.fill.ensures.same (λ is. absurd cc) c.in_default-element.ensures.takes refl) c.in_default-values_by_ten.ensures.takes
