use Rattle.std.proofs.Common.{◌≡◌, ◌∙◌, ap, sym, arith, ◌-◌, take}
use Rattle.jpg_prog_read.specs.ExtraWork.{ExtraWork}
use Rattle.jpg_prog_read.specs.DcWork.{DcWork}
use Rattle.jpg_prog_read.proofs.DcLookedUp.{number_hurried, taken}
use Rattle.jpg_prog_read.proofs.Leaf.{empty_is}
use Rattle.jpg_prog_read.proofs.dc.DcUnit.hurry_number.Goals as goal

pub returns-then-size-len : goal.returns-then-size-len
returns-then-size-len c = λ b dc.
    let i = c.self.inside in
    let old = c.args.self.now in
    let store = c.args.store.now in
    let n = c.size-size.result - 1 in
    let size : c.size-size.result ≡ old.size = c.size-size.ensures.value ∙ ap (λ (u : DcWork). u.size) c.self.view_is in
    let none = ap (λ (u : DcWork). u.extra) (sym c.self.view_is) ∙ empty_is _ (sym c.is_new.ensures ∙ c.if-is_new.true) in
    let v : ExtraWork → DcWork = λ x. (let m : DcWork = record { walked = i.walk; size = x.size; extra = x.bits } in m) in
    let whole : c.fill.new.self ≡ record i.extra { bits = take n store } = c.fill.ensures ∙ ap (λ l. (let x : ExtraWork = record i.extra { bits = l } in x)) c.peek.ensures.value in
    let filled : v c.fill.new.self ≡ taken old (take n store) = ap v whole ∙ ap (λ (u : DcWork). taken u (take n store)) c.self.view_is in
    number_hurried b dc old (v c.fill.new.self) store n c.skip_few.new.self (omega (arith, size, c.if-size-gt0.true)) none (omega (arith, size, c.if-size-gt0.true)) (omega (arith, size, c.if-size-len.true, c.len.ensures.value)) filled c.skip_few.ensures
