use Rattle.std.proofs.Common.{◌≡◌, ◌-◌, refl, ap, ◌∙◌, arith, ℤ, rules}
use Rattle.std.specs.Prelude.{Ok}
use mir.Syntax.{w16}
use mir.Val.{to_z, of_z}
use Rattle.std.proofs.lemmas.Int.{to_z-of_z}
use Rattle.jpg_coefs.specs.declared.machine.UnitStep.TheVariants as step
use Rattle.jpg_prog_read.specs.declared.dc_first.DcFirst.{DcFirst}
use Rattle.jpg_prog_read.specs.DcFirstPass.{first_pass, behind_unit}
use Rattle.jpg_prog_read.specs.DcPlaces.{with_dc}
use Rattle.jpg_prog_read.proofs.DcMachines.{can_read, first_spot, step_within, step_fault, step_unit, step_last, same_step}
use Rattle.jpg_prog_read.proofs.dc_first.DcFirstBitMachine.one_bit.Goals as goal

pub unit_bit-requires : goal.unit_bit-requires
unit_bit-requires c = let o = c.requires.open in can_read c.args.self.now c.place-place.result c.args.coefs.now c.place-place.ensures o.0 o.1 o.2

pub put-requires-clause-small : goal.put-requires-clause-small
put-requires-clause-small c = let o = c.requires.open in (first_spot c.args.self.now c.place-place.result c.args.coefs.now c.place-place.ensures o.0 o.1 o.2).small

pub put-requires-clause-padded : goal.put-requires-clause-padded
put-requires-clause-padded c = let o = c.requires.open in (first_spot c.args.self.now c.place-place.result c.args.coefs.now c.place-place.ensures o.0 o.1 o.2).padded

pub returns-in-More-clause-step : goal.returns-in-More-clause-step
returns-in-More-clause-step c =
    let h = c.in-More.ensures in
    let m = c.args.self.now in
    same_step first_pass m c.args.coefs.now c.args.bit (Ok step.More) h.same refl
    (step_within m c.place-place.result c.args.coefs.now c.place-place.ensures c.args.bit c.unit_bit.new.self.unit h.open h.reads)

pub returns-in-Fault-clause-step : goal.returns-in-Fault-clause-step
returns-in-Fault-clause-step c =
    step_fault c.args.self.now c.place-place.result c.args.coefs.now c.place-place.ensures c.unit_bit.new.self c.args.bit c.unit_bit.new.self.unit c.in-Fault.fault c.in-Fault.ensures.reads

pub returns-then-self-eq0-clause-step : goal.returns-then-self-eq0-clause-step
returns-then-self-eq0-clause-step c =
    let m = c.args.self.now in
    let p = c.place-place.result in
    let now = c.args.coefs.now in
    let w = c.in-Done.prediction in
    let v = c.in-Done.value in
    let unit = c.unit_bit.new.self.unit in
    let some = (c.requires.open.2.places).count in
    let left : c.put.new.self.left ≡ m.left - 1 = ap (λ (q : DcFirst). q.left) c.put.ensures.machine ∙ ap (λ (q : DcFirst). q.left - 1) c.in-Done.ensures.same in
    let new : c.put.new.self ≡ behind_unit m p.component w =
    c.put.ensures.machine ∙ ap (λ (q : DcFirst). behind_unit q p.component (to_z w16 (of_z w16 w))) c.in-Done.ensures.same ∙ ap (λ (x : ℤ). behind_unit m p.component x) (to_z-of_z w16 w (search rules)) in
    let after : c.put.new.coefs ≡ with_dc now p v = c.put.ensures.block ∙ ap (λ (x : ℤ). with_dc now p x) (to_z-of_z w16 v (search rules)) in
    same_step first_pass m now c.args.bit (Ok step.IntervalDone) new after
    (step_last m p now c.place-place.ensures c.args.bit unit w v c.put.ensures.count c.in-Done.ensures.reads (omega (arith, left, some, c.if-self-eq0.true)))

pub returns-else-self-eq0-clause-step : goal.returns-else-self-eq0-clause-step
returns-else-self-eq0-clause-step c =
    let m = c.args.self.now in
    let p = c.place-place.result in
    let now = c.args.coefs.now in
    let w = c.in-Done.prediction in
    let v = c.in-Done.value in
    let unit = c.unit_bit.new.self.unit in
    let some = (c.requires.open.2.places).count in
    let left : c.put.new.self.left ≡ m.left - 1 = ap (λ (q : DcFirst). q.left) c.put.ensures.machine ∙ ap (λ (q : DcFirst). q.left - 1) c.in-Done.ensures.same in
    let new : c.put.new.self ≡ behind_unit m p.component w =
    c.put.ensures.machine ∙ ap (λ (q : DcFirst). behind_unit q p.component (to_z w16 (of_z w16 w))) c.in-Done.ensures.same ∙ ap (λ (x : ℤ). behind_unit m p.component x) (to_z-of_z w16 w (search rules)) in
    let after : c.put.new.coefs ≡ with_dc now p v = c.put.ensures.block ∙ ap (λ (x : ℤ). with_dc now p x) (to_z-of_z w16 v (search rules)) in
    same_step first_pass m now c.args.bit (Ok step.More) new after
    (step_unit m p now c.place-place.ensures c.args.bit unit w v c.put.ensures.count c.in-Done.ensures.reads (omega (arith, left, some, c.if-self-eq0.false)))
