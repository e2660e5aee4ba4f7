use Rattle.std.proofs.Common.{◌+◌, ◌*◌, List, ap, ◌∙◌, subst, arith, rules, pos}
use mir.Syntax.{w16}
use Rattle.std.proofs.lemmas.Int.{to_z-of_z}
use Rattle.std.specs.Prelude.{slice_index, ◌+ℤ◌}
use Rattle.jpg_spec.specs.Codes.{Code}
use Rattle.jpg_huff.specs.Tables.{symbol_codes}
use Rattle.jpg_huff.specs.Encoder.{IsValueEntry}
use Rattle.jpg_huff.proofs.Encoded.{entry_at}
use Rattle.jpg_huff.proofs.encoder.Encoder.value.Goals as goal

pub returns-clause-bits : goal.returns-clause-bits
returns-clause-bits c =
    let n = c.raised.result in
    let e = c.raised.ensures.value ∙ ap (λ v. v +ℤ pos 32) (to_z-of_z w16 c.args.value (search rules)) in
    let is = entry_at (symbol_codes c.self.inside.table) c.self.inside.values c.self.inside.counts c.args.run n c.args.value c.self.invariant.0 c.requires.run c.raised.ensures.few e in
    (subst (λ (codes : List Code). IsValueEntry codes c.args.run c.args.value (slice_index c.self.inside.values (64 * c.args.run + n)) (slice_index c.self.inside.counts (64 * c.args.run + n))) c.self.view_is is).bits

pub returns-clause-fits : goal.returns-clause-fits
returns-clause-fits c =
    let n = c.raised.result in
    let e = c.raised.ensures.value ∙ ap (λ v. v +ℤ pos 32) (to_z-of_z w16 c.args.value (search rules)) in
    let is = entry_at (symbol_codes c.self.inside.table) c.self.inside.values c.self.inside.counts c.args.run n c.args.value c.self.invariant.0 c.requires.run c.raised.ensures.few e in
    (is.short, is.fits)
