use Rattle.std.proofs.Common.{◌≡◌, ◌≤◌, ◌∷◌, ◌++◌, [], sym, ap, ◌∙◌, subst, arith, rules, pos}
use mir.Syntax.{w16, w32}
use mir.Val.{to_z, of_z}
use Rattle.std.specs.Prelude.{◌-ℤ◌, slice_index_or}
use Rattle.std.proofs.lemmas.Int.{to_z-of_z}
use Rattle.jpg_spec.specs.Numbers.{category, extra_bits}
use Rattle.jpg_spec.specs.Codes.{code_of}
use Rattle.jpg_spec.specs.Segments.{ScanHead}
use Rattle.jpg_spec_write.specs.Sending.{shifted}
use Rattle.jpg_spec.proofs.Basics.Common.{lt_yes, lt_no}
use Rattle.jpg_huff.proofs.Together.{puts_same}
use Rattle.jpg_prog_write.specs.Written.{codes_in}
use Rattle.jpg_prog_write.proofs.DcUnits.{bit_unit, code_unit}
use Rattle.jpg_prog_write.proofs.dc.put_unit.Goals as goal
use Rattle.jpg_spec.proofs.Basics.Small.{apart_16}

pub put_difference-requires-clause-short : goal.put_difference-requires-clause-short
put_difference-requires-clause-short g c =
    let w = c.difference-change.ensures.within in
    subst (λ d. category d ≤ 16) (sym (to_z-of_z w32 c.difference-change.result (search rules))) (apart_16 c.difference-change.result w.0 w.1)

pub returns-then-head-gt0 : goal.returns-then-head-gt0
returns-then-head-gt0 g c =
    let head = c.args.units.now.head.now in
    let al = ap (λ (h : ScanHead). h.al) c.head.view_is in
    let ah = ap (λ (h : ScanHead). h.ah) c.head.view_is in
    let value = slice_index_or c.args.unit.block.now 0 (pos 0) in
    let is : to_z w16 (of_z w16 c.get.result) ≡ value = to_z-of_z w16 c.get.result (search rules) ∙ c.get.ensures.value in
    let e = to_z-of_z w16 c.shifted-value.result (search rules) ∙ c.shifted-value.ensures ∙ ap (λ n. shifted n (to_z w16 (of_z w16 c.get.result))) al ∙ ap (shifted head.al) is in
    puts_same _ _ _ _ (c.is_odd.result ∷ []) _ _ (bit_unit c.args.units.now.tables.now head c.args.unit.component c.args.unit.last value (to_z w16 (of_z w16 c.shifted-value.result)) c.is_odd.result (lt_yes 0 head.ah (omega (arith, ah, c.if-head-gt0.true))) e c.is_odd.ensures) c.put_bit.ensures

pub returns-else-head-gt0 : goal.returns-else-head-gt0
returns-else-head-gt0 g c =
    let head = c.args.units.now.head.now in
    let al = ap (λ (h : ScanHead). h.al) c.head.view_is in
    let ah = ap (λ (h : ScanHead). h.ah) c.head.view_is in
    let value = slice_index_or c.args.unit.block.now 0 (pos 0) in
    let is : to_z w16 (of_z w16 c.get.result) ≡ value = to_z-of_z w16 c.get.result (search rules) ∙ c.get.ensures.value in
    let v = to_z-of_z w16 c.shifted-value.result (search rules) ∙ c.shifted-value.ensures ∙ ap (λ n. shifted n (to_z w16 (of_z w16 c.get.result))) al ∙ ap (shifted head.al) is in
    let l = to_z-of_z w16 c.shifted-prediction.result (search rules) ∙ c.shifted-prediction.ensures ∙ ap (λ n. shifted n (to_z w16 (of_z w16 c.args.unit.last))) al ∙ ap (shifted head.al) (to_z-of_z w16 c.args.unit.last (search rules)) in
    let d = to_z w32 (of_z w32 c.difference-change.result) in
    let e = to_z-of_z w32 c.difference-change.result (search rules) ∙ c.difference-change.ensures.value ∙ ap (λ x. x -ℤ to_z w16 (of_z w16 c.shifted-prediction.result)) v ∙ ap (λ x. shifted head.al value -ℤ x) l in
    let p = c.part_of-part.result in
    puts_same _ _ _ _ (code_of (codes_in c.args.units.now.tables.now 0 p.dc) (category d) ++ extra_bits d) _ _
    (code_unit c.args.units.now.tables.now head c.args.unit.component c.args.unit.last value d p (lt_no 0 head.ah (omega (arith, ah, c.if-head-gt0.false))) c.part_of-part.ensures e) c.put_difference.ensures
