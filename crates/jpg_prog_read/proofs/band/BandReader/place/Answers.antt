use Rattle.std.proofs.Common.{rules, refl, sym, subst, ap, ◌≡◌, ◌∙◌, pos, ◌≤◌, ◌<◌, ℤ, ◌*ℤ◌, ◌++◌, ◌∷◌, [], drop}
use Rattle.std.specs.Prelude.{nat_abs}
use mir.Syntax.{w16}
use mir.Val.{to_z, of_z}
use Rattle.std.proofs.lemmas.Int.{to_z-of_z}
use Rattle.jpg_spec.specs.Elements.{scaled}
use Rattle.jpg_prog_read.specs.InWork.{InWork}
use Rattle.jpg_prog_read.specs.ReaderSteps.{AfterValue, StaysOpen}
use Rattle.jpg_prog_read.specs.Stands.{Answered}
use Rattle.jpg_prog_read.proofs.Passing.{after_value, value_whole, value_out, in_limit, out_limit, opened, fits_more}
use Rattle.jpg_prog_read.proofs.band.BandReader.place.Goals as goal

pub returns-in-Beyond-clause-answered : goal.returns-in-Beyond-clause-answered
returns-in-Beyond-clause-answered c = λ ac at bits k f.
    let s = c.args.self.now in
    let x : to_z w16 (of_z w16 c.due.result) ≡ s.due = to_z-of_z w16 c.due.result (search rules) ∙ c.due.ensures in
    let e : to_z w16 (of_z w16 c.due.result) *ℤ pos c.args.scan.now.scale ≡ scaled at.coding.al s.due = ap (λ (v : ℤ). v *ℤ pos c.args.scan.now.scale) x ∙ ap (λ n. s.due *ℤ pos n) k.scale in
    value_out f c.requires.stage.0 c.requires.zero c.requires.stage.1 (out_limit at.coding c.args.scan.now.most_magnitude (scaled at.coding.al s.due) k.bounds (subst (λ (y : ℤ). c.args.scan.now.most_magnitude < nat_abs y) e c.in-Beyond.ensures))

pub returns-in-Within-clause-open : goal.returns-in-Within-clause-open
returns-in-Within-clause-open c =
    let s = c.args.self.now in
    let w = to_z w16 (of_z w16 c.in-Within.value) in
    let e : c.put.new.self ≡ after_value s w = c.put.ensures ∙ ap (λ (m : InWork). (let n : InWork = record m { done = m.done ++ w ∷ []; rest = drop 1 m.rest } in n)) c.end_element.ensures in
    subst (λ (n : InWork). StaysOpen c.args.scan.now c.covered.result n) (sym e)
    (opened c.args.scan.now c.covered.result (after_value s (to_z w16 (of_z w16 c.in-Within.value))) refl (fits_more c.args.scan.now s.rest c.requires.fits) (subst (λ (n : InWork). AfterValue c.covered.result n) e c.covered.ensures))

pub returns-in-Within-clause-answered : goal.returns-in-Within-clause-answered
returns-in-Within-clause-answered c = λ ac at bits k f.
    let s = c.args.self.now in
    let x : to_z w16 (of_z w16 c.due.result) ≡ s.due = to_z-of_z w16 c.due.result (search rules) ∙ c.due.ensures in
    let e : to_z w16 (of_z w16 c.due.result) *ℤ pos c.args.scan.now.scale ≡ scaled at.coding.al s.due = ap (λ (v : ℤ). v *ℤ pos c.args.scan.now.scale) x ∙ ap (λ n. s.due *ℤ pos n) k.scale in
    let v : to_z w16 (of_z w16 c.in-Within.value) ≡ scaled at.coding.al s.due = to_z-of_z w16 c.in-Within.value (search rules) ∙ c.in-Within.ensures.0 ∙ e in
    let w = to_z w16 (of_z w16 c.in-Within.value) in
    let m : c.put.new.self ≡ after_value s (scaled at.coding.al s.due) = c.put.ensures ∙ ap (λ (m : InWork). (let n : InWork = record m { done = m.done ++ w ∷ []; rest = drop 1 m.rest } in n)) c.end_element.ensures ∙ ap (λ (y : ℤ). after_value s y) v in
    subst (λ (n : InWork). Answered at bits c.covered.result n) (sym m)
    (value_whole f c.covered.result c.requires.stage.0 c.requires.zero c.requires.stage.1
    (in_limit at.coding c.args.scan.now.most_magnitude (scaled at.coding.al s.due) k.bounds (subst (λ (y : ℤ). nat_abs y ≤ c.args.scan.now.most_magnitude) e c.in-Within.ensures.1)) (subst (λ (n : InWork). AfterValue c.covered.result n) m c.covered.ensures))
