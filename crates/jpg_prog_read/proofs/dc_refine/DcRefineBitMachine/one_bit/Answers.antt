use Rattle.std.proofs.Common.{◌≡◌, ◌-◌, subst, sym, ap, ◌∙◌, arith, ℤ, pos, ◌+ℤ◌, ◌≤ℤ◌, rules}
use Rattle.std.specs.Prelude.{Ok}
use mir.Syntax.{w16}
use Rattle.std.proofs.lemmas.Int.{to_z-of_z}
use Rattle.jpg_coefs.specs.declared.machine.UnitStep.TheVariants as step
use Rattle.jpg_prog_read.specs.declared.dc_refine.DcRefine.{DcRefine}
use Rattle.jpg_prog_read.specs.DcPlaces.{with_dc}
use Rattle.jpg_prog_read.specs.DcRefinement.{refinement}
use Rattle.jpg_prog_read.specs.RepresentsDcUnit.{AnswersDcRefinement}
use Rattle.jpg_prog_read.proofs.DcMachines.{next_room, refine_spot, step_bit, step_last_bit, same_step}
use Rattle.jpg_prog_read.proofs.dc_refine.DcRefineBitMachine.one_bit.Goals as goal

pub refine-value-requires-clause-low : goal.refine-value-requires-clause-low
refine-value-requires-clause-low c =
    let o = c.requires.open in
    let r = next_room c.args.self.now c.place-place.result c.args.coefs.now c.dc_of.result c.place-place.ensures c.dc_of.ensures o.0 o.1 o.2 in
    subst (λ (y : ℤ). c.args.self.now.scan.low ≤ℤ y) (sym (to_z-of_z w16 c.dc_of.result (search rules))) r.0

pub refine-value-requires-clause-high : goal.refine-value-requires-clause-high
refine-value-requires-clause-high c =
    let o = c.requires.open in
    let s = c.args.self.now.scan in
    let r = next_room c.args.self.now c.place-place.result c.args.coefs.now c.dc_of.result c.place-place.ensures c.dc_of.ensures o.0 o.1 o.2 in
    subst (λ (y : ℤ). (y +ℤ pos s.scale) ≤ℤ s.high) (sym (to_z-of_z w16 c.dc_of.result (search rules))) r.1

pub put-requires-clause-padded : goal.put-requires-clause-padded
put-requires-clause-padded c = let o = c.requires.open in (refine_spot c.args.self.now c.place-place.result c.args.coefs.now o.0 o.1 c.place-place.ensures o.2).padded

pub returns-then-self-eq0-clause-step : goal.returns-then-self-eq0-clause-step
returns-then-self-eq0-clause-step c =
    let m = c.args.self.now in
    let p = c.place-place.result in
    let now = c.args.coefs.now in
    let x = c.dc_of.result in
    let v = c.refine-value.result in
    let some = (c.requires.open.2.places).count in
    let left : c.put.new.self.left ≡ m.left - 1 = ap (λ (q : DcRefine). q.left) c.put.ensures.machine in
    let after : c.put.new.coefs ≡ with_dc now p v = c.put.ensures.block ∙ ap (λ (y : ℤ). with_dc now p y) (to_z-of_z w16 v (search rules)) in
    let read = subst (λ (y : ℤ). AnswersDcRefinement m.scan y c.args.bit v) (to_z-of_z w16 x (search rules)) c.refine-value.ensures in
    same_step refinement m now c.args.bit (Ok step.IntervalDone) c.put.ensures.machine after
    (step_last_bit m p now x c.place-place.ensures c.dc_of.ensures c.args.bit v c.put.ensures.count read (omega (arith, left, some, c.if-self-eq0.true)))

pub returns-else-self-eq0-clause-step : goal.returns-else-self-eq0-clause-step
returns-else-self-eq0-clause-step c =
    let m = c.args.self.now in
    let p = c.place-place.result in
    let now = c.args.coefs.now in
    let x = c.dc_of.result in
    let v = c.refine-value.result in
    let some = (c.requires.open.2.places).count in
    let left : c.put.new.self.left ≡ m.left - 1 = ap (λ (q : DcRefine). q.left) c.put.ensures.machine in
    let after : c.put.new.coefs ≡ with_dc now p v = c.put.ensures.block ∙ ap (λ (y : ℤ). with_dc now p y) (to_z-of_z w16 v (search rules)) in
    let read = subst (λ (y : ℤ). AnswersDcRefinement m.scan y c.args.bit v) (to_z-of_z w16 x (search rules)) c.refine-value.ensures in
    same_step refinement m now c.args.bit (Ok step.More) c.put.ensures.machine after
    (step_bit m p now x c.place-place.ensures c.dc_of.ensures c.args.bit v c.put.ensures.count read (omega (arith, left, some, c.if-self-eq0.false)))
