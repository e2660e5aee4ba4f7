use Rattle.std.proofs.Common.{rules, ◌∙◌, subst, arith, ℤ, ◌+ℤ◌, pos}
use mir.Syntax.{w16}
use mir.Val.{to_z, of_z}
use Rattle.std.proofs.lemmas.Int.{to_z-of_z}
use Rattle.jpg_huff.specs.Tables.{symbol_codes}
use Rattle.jpg_prog_read.specs.declared.dc.DcValue.TheVariants.{Within, Beyond}
use Rattle.jpg_prog_read.specs.DcWork.{IsDcValue}
use Rattle.jpg_prog_read.proofs.DcUnits.{dc_more, dc_none, dc_bad, dc_begun, difference_read, zero_completes}
use Rattle.jpg_prog_read.proofs.dc.DcUnit.code_bit.Goals as goal

pub returns-in-More-clause-answered : goal.returns-in-More-clause-answered
returns-in-More-clause-answered c =
    dc_more c.args.scan.now (symbol_codes c.args.table.now) c.args.prediction c.args.self.now c.walk_bit.new.self c.args.bit c.requires.stage
    c.in-More.ensures.same c.in-More.ensures.answers.0 c.in-More.ensures.answers.1

pub returns-in-NoCode-clause-answered : goal.returns-in-NoCode-clause-answered
returns-in-NoCode-clause-answered c =
    dc_none c.args.scan.now (symbol_codes c.args.table.now) c.args.prediction c.args.self.now c.walk_bit.new.self c.args.bit c.requires.stage c.in-NoCode.ensures.answers.0

pub returns-then-size-scan-clause-answered : goal.returns-then-size-scan-clause-answered
returns-then-size-scan-clause-answered c =
    dc_bad c.args.scan.now (symbol_codes c.args.table.now) c.args.prediction c.args.self.now c.walk_bit.new.self c.args.bit c.in-Symbol.size c.requires.stage c.in-Symbol.ensures.answers.0 (omega (arith, c.if-size-scan.true))

pub returns-in-Beyond-clause-answered : goal.returns-in-Beyond-clause-answered
returns-in-Beyond-clause-answered c =
    let b = c.args.scan.now in let dc = symbol_codes c.args.table.now in let s = c.args.self.now in
    let h : IsDcValue b (c.args.prediction +ℤ pos 0) Beyond = subst (λ (z : ℤ). IsDcValue b (z +ℤ pos 0) Beyond) (to_z-of_z w16 c.args.prediction (search rules)) c.in-Beyond.ensures in
    difference_read b dc c.args.prediction s c.walk_bit.new.self c.args.bit (pos 0) Beyond
    (zero_completes b dc s c.args.bit c.in-Symbol.size c.requires.stage c.in-Symbol.ensures.answers.0 c.if-size-eq0.true) h

pub returns-in-Within-clause-answered : goal.returns-in-Within-clause-answered
returns-in-Within-clause-answered c =
    let b = c.args.scan.now in let dc = symbol_codes c.args.table.now in let s = c.args.self.now in
    let x = c.in-Within.prediction in
    let y = c.in-Within.value in
    let h : IsDcValue b (c.args.prediction +ℤ pos 0) (Within x y) = subst (λ (z : ℤ). IsDcValue b (z +ℤ pos 0) (Within x y)) (to_z-of_z w16 c.args.prediction (search rules)) c.in-Within.ensures in
    difference_read b dc c.args.prediction s c.walk_bit.new.self c.args.bit (pos 0) (Within (to_z w16 (of_z w16 x)) (to_z w16 (of_z w16 y)))
    (zero_completes b dc s c.args.bit c.in-Symbol.size c.requires.stage c.in-Symbol.ensures.answers.0 c.if-size-eq0.true) (to_z-of_z w16 x (search rules) ∙ h.0, to_z-of_z w16 y (search rules) ∙ h.1, h.2)

pub returns-else-size-eq0-clause-answered : goal.returns-else-size-eq0-clause-answered
returns-else-size-eq0-clause-answered c =
    dc_begun c.args.scan.now (symbol_codes c.args.table.now) c.args.prediction c.args.self.now c.walk_bit.new.self c.begin.new.self c.args.bit c.in-Symbol.size c.requires.stage
    c.in-Symbol.ensures.answers.1 c.in-Symbol.ensures.answers.0 (omega (arith, c.if-size-eq0.false)) (omega (arith, c.if-size-scan.false)) c.begin.ensures
