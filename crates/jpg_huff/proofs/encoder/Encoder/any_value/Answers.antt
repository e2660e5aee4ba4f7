use Rattle.std.proofs.Common.{◌≡◌, ◌+◌, ◌*◌, ◌++◌, ℤ, List, ap, ◌∙◌, subst, sym, rules, pos}
use mir.Syntax.{w16, w32}
use Rattle.std.proofs.lemmas.Int.{to_z-of_z}
use Rattle.std.specs.Prelude.{◌+ℤ◌, ◌≤ℤ◌, slice_index}
use Rattle.jpg_spec.specs.Bits.{bits_of}
use Rattle.jpg_spec.specs.Codes.{Code, code_of}
use Rattle.jpg_spec.specs.Numbers.{category, extra_bits}
use Rattle.jpg_huff.specs.Tables.{symbol_codes}
use Rattle.jpg_huff.proofs.Encoded.{moves_stored}
use Rattle.jpg_huff.proofs.encoder.Encoder.any_value.Goals as goal

pub moved-requires-clause-base : goal.moved-requires-clause-base
moved-requires-clause-base c =
    let same = to_z-of_z w16 c.args.value (search rules) in
    let e = to_z-of_z w32 c.from.result (search rules) ∙ c.from.ensures ∙ same in
    let place = c.place_of-place in
    let m = moves_stored (symbol_codes c.self.inside.table) c.self.inside.bases c.self.inside.lengths c.args.run place.result c.category.result c.args.value _ _ c.self.invariant.1 c.requires.run c.requires.short c.category.ensures.category e same
    place.ensures.few place.ensures.negative place.ensures.other in
    m.small

pub moved-requires-clause-positive : goal.moved-requires-clause-positive
moved-requires-clause-positive c =
    let same = to_z-of_z w16 c.args.value (search rules) in
    let e = to_z-of_z w32 c.from.result (search rules) ∙ c.from.ensures ∙ same in
    let place = c.place_of-place in
    let m = moves_stored (symbol_codes c.self.inside.table) c.self.inside.bases c.self.inside.lengths c.args.run place.result c.category.result c.args.value _ _ c.self.invariant.1 c.requires.run c.requires.short c.category.ensures.category e same
    place.ensures.few place.ensures.negative place.ensures.other in
    subst (λ v. pos 0 ≤ℤ (pos (slice_index c.self.inside.bases place.result) +ℤ v)) (sym same) m.room

pub returns-clause-bits : goal.returns-clause-bits
returns-clause-bits c =
    let same = to_z-of_z w16 c.args.value (search rules) in
    let e = to_z-of_z w32 c.from.result (search rules) ∙ c.from.ensures ∙ same in
    let place = c.place_of-place in
    let m = moves_stored (symbol_codes c.self.inside.table) c.self.inside.bases c.self.inside.lengths c.args.run place.result c.category.result c.args.value _ _ c.self.invariant.1 c.requires.run c.requires.short c.category.ensures.category e same
    place.ensures.few place.ensures.negative place.ensures.other in
    let given = m.gives c.moved.result (c.moved.ensures ∙ ap (λ v. pos (slice_index c.self.inside.bases place.result) +ℤ v) same) in
    subst (λ (codes : List Code). bits_of (slice_index c.self.inside.lengths place.result) c.moved.result ≡ code_of codes (16 * c.args.run + category c.args.value) ++ extra_bits c.args.value) c.self.view_is given.0

pub returns-clause-fits : goal.returns-clause-fits
returns-clause-fits c =
    let same = to_z-of_z w16 c.args.value (search rules) in
    let e = to_z-of_z w32 c.from.result (search rules) ∙ c.from.ensures ∙ same in
    let place = c.place_of-place in
    let m = moves_stored (symbol_codes c.self.inside.table) c.self.inside.bases c.self.inside.lengths c.args.run place.result c.category.result c.args.value _ _ c.self.invariant.1 c.requires.run c.requires.short c.category.ensures.category e same
    place.ensures.few place.ensures.negative place.ensures.other in
    (m.long, (m.gives c.moved.result (c.moved.ensures ∙ ap (λ v. pos (slice_index c.self.inside.bases place.result) +ℤ v) same)).1)
