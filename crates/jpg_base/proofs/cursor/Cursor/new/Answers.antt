use Rattle.std.proofs.Common.{◌∷◌, [], ◌≡◌, ◌<◌, ◌≤◌, get_or, length, sym, ap, ◌∙◌, arith, List}
use Rattle.std.specs.Prelude.{map}
use Rattle.std.proofs.lemmas.List.{length-map}
use Rattle.jpg_spec.specs.Segments.{ScanHead, head_components}
use Rattle.jpg_spec.specs.declared.frame.ScanPart.{ScanPart}
use Rattle.jpg_spec.specs.Geometry.{units}
use Rattle.jpg_base.specs.Cursor.{all_spots}
use Rattle.jpg_base.specs.declared.cursor.CursorPart.{CursorPart}
use Rattle.jpg_base.proofs.ScanPlaces.{all_parts, lone_units, several_units, only_one}
use Rattle.jpg_base.proofs.cursor.Cursor.new.Goals as goal

pub cursor_parts-requires-clause-there : goal.cursor_parts-requires-clause-there
cursor_parts-requires-clause-there c =
    let parts : c.args.head.now.parts ≡ c.as_slice.result.now = sym (c.as_slice.ensures.value ∙ ap (λ (h : ScanHead). h.parts) c.head.view_is) in
    all_parts (λ i. i < length c.args.frame.now.components) c.as_slice.result.now (rw parts at c.requires.there)

pub returns-then-len-eq1 : goal.returns-then-len-eq1
returns-then-len-eq1 c =
    let f = c.args.frame.now in
    let parts : c.args.head.now.parts ≡ c.deref.result.now = sym (c.deref.ensures.0 ∙ ap (λ (h : ScanHead). h.parts) c.head.view_is) in
    let one : length c.deref.result.now ≡ 1 = omega (arith, ap length c.deref.ensures.0, c.len.ensures.value, c.if-len-eq1.true) in
    let d : ScanPart = record { component = 0; dc = 0; ac = 0 } in
    let i = (get_or c.deref.result.now 0 d).component in
    let comps : head_components c.args.head.now ≡ i ∷ [] = ap (map (λ (p : ScanPart). p.component)) parts ∙ only_one c.deref.result.now d one in
    c.first.ensures
    ∙ ap (λ (l : List CursorPart). all_spots l c.lone_part-part.result.wide c.lone_part-part.result.high) c.one_part.ensures
    ∙ ap (λ (p : CursorPart). all_spots (p ∷ []) p.wide p.high) c.lone_part-part.ensures.value
    ∙ lone_units f i (head_components c.args.head.now) comps

pub returns-else-len-eq1 : goal.returns-else-len-eq1
returns-else-len-eq1 c =
    let f = c.args.frame.now in
    let parts : c.args.head.now.parts ≡ c.as_slice.result.now = sym (c.as_slice.ensures.value ∙ ap (λ (h : ScanHead). h.parts) c.head.view_is) in
    let two : 2 ≤ length c.as_slice.result.now = omega (arith, ap length c.as_slice.ensures.value, c.len.ensures.value, c.if-len-eq1.false, c.requires.some, length-map c.args.head.now.parts (λ (p : ScanPart). p.component), ap length parts) in
    c.first-else-len-eq1.ensures
    ∙ ap (λ (l : List CursorPart). all_spots l c.mcus-mcus.result.wide c.mcus-mcus.result.high) c.cursor_parts.ensures.value
    ∙ rw c.mcus-mcus.ensures.value (several_units f c.as_slice.result.now two)
    ∙ ap (λ (l : List ScanPart). units f (map (λ p. p.component) l)) (sym parts)
