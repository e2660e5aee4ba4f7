use Rattle.std.proofs.Common.{rules, ◌≡◌, ◌∷◌, sym, ap, ◌∙◌, subst}
use mir.Syntax.{w16}
use mir.Val.{SFits, to_z, of_z}
use Rattle.std.proofs.lemmas.Int.{to_z-of_z}
use Rattle.jpg_spec.specs.Elements.{zeros}
use Rattle.jpg_coefs.specs.Sinks.{TakesUnit, at, with_unit}
use Rattle.jpg_coefs.proofs.intervals.put_padding.Goals as goal

pub unit-requires : goal.unit-requires
unit-requires g c =
    let k = g.S.UnitSink.kind in
    let fits : SFits w16 c.args.last = search rules in
    let same : to_z w16 (of_z w16 c.args.last) ≡ c.args.last = to_z-of_z w16 c.args.last fits in
    let e : c.padding-block.result ≡ c.args.last ∷ zeros 63 = c.padding-block.ensures ∙ ap (λ q. q ∷ zeros 63) same in
    (c.requires.0, c.requires.1 ∙ sym same, subst (λ b. k.due (with_unit c.requires.0 (c.args.component, b)) (at c.args.sink.now c.args.out.now c.args.desk.now)) (sym e) c.requires.2)

pub returns : goal.returns
returns g c =
    let k = g.S.UnitSink.kind in
    let i = c.args.component in
    let old = at c.args.sink.now c.args.out.now c.args.desk.now in
    let new = at c.unit.new.self c.unit.new.out c.unit.new.desk in
    let fits : SFits w16 c.args.last = search rules in
    let same : to_z w16 (of_z w16 c.args.last) ≡ c.args.last = to_z-of_z w16 c.args.last fits in
    let e : c.padding-block.result ≡ c.args.last ∷ zeros 63 = c.padding-block.ensures ∙ ap (λ q. q ∷ zeros 63) same in
    subst (λ b. TakesUnit k (i, b) c.args.last old c.unit.result new) e (subst (λ q. TakesUnit k (i, c.padding-block.result) q old c.unit.result new) same c.unit.ensures)
