use Rattle.std.proofs.Common.{rules, ◌∙◌, subst, ℤ, ◌+ℤ◌}
use mir.Syntax.{w16}
use mir.Val.{to_z, of_z}
use Rattle.std.proofs.lemmas.Int.{to_z-of_z}
use Rattle.jpg_prog_read.specs.declared.dc.DcValue.TheVariants.{Within, Beyond}
use Rattle.jpg_prog_read.specs.DcWork.{IsDcValue}
use Rattle.jpg_prog_read.proofs.DcUnits.{dc_wanting, difference_read, number_completes}
use Rattle.jpg_prog_read.proofs.dc.DcUnit.number_bit.Goals as goal

pub returns-in-Wanting-clause-answered : goal.returns-in-Wanting-clause-answered
returns-in-Wanting-clause-answered c = λ dc. dc_wanting c.args.scan.now dc c.args.prediction c.args.self.now c.extra_bit.new.self c.args.bit c.requires.stage c.in-Wanting.ensures.0

pub returns-in-Beyond-clause-answered : goal.returns-in-Beyond-clause-answered
returns-in-Beyond-clause-answered c = λ dc.
    let b = c.args.scan.now in
    let e = c.in-Whole.difference in
    let h : IsDcValue b (c.args.prediction +ℤ e) Beyond =
    subst (λ (z : ℤ). IsDcValue b (c.args.prediction +ℤ z) Beyond) (to_z-of_z w16 e (search rules)) (subst (λ (z : ℤ). IsDcValue b (z +ℤ to_z w16 (of_z w16 e)) Beyond) (to_z-of_z w16 c.args.prediction (search rules)) c.in-Beyond.ensures) in
    difference_read b dc c.args.prediction c.args.self.now c.extra_bit.new.self c.args.bit e Beyond
    (number_completes b dc c.args.self.now c.args.bit e c.requires.stage c.in-Whole.ensures.0 c.in-Whole.ensures.1) h

pub returns-in-Within-clause-answered : goal.returns-in-Within-clause-answered
returns-in-Within-clause-answered c = λ dc.
    let b = c.args.scan.now in
    let e = c.in-Whole.difference in
    let x = c.in-Within.prediction in
    let y = c.in-Within.value in
    let h : IsDcValue b (c.args.prediction +ℤ e) (Within x y) =
    subst (λ (z : ℤ). IsDcValue b (c.args.prediction +ℤ z) (Within x y)) (to_z-of_z w16 e (search rules)) (subst (λ (z : ℤ). IsDcValue b (z +ℤ to_z w16 (of_z w16 e)) (Within x y)) (to_z-of_z w16 c.args.prediction (search rules)) c.in-Within.ensures) in
    difference_read b dc c.args.prediction c.args.self.now c.extra_bit.new.self c.args.bit e (Within (to_z w16 (of_z w16 x)) (to_z w16 (of_z w16 y)))
    (number_completes b dc c.args.self.now c.args.bit e c.requires.stage c.in-Whole.ensures.0 c.in-Whole.ensures.1) (to_z-of_z w16 x (search rules) ∙ h.0, to_z-of_z w16 y (search rules) ∙ h.1, h.2)
