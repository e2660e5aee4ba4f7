use Rattle.std.proofs.Common.{rules, ◌≡◌, ◌∙◌, ap, sym, length}
use Rattle.jpg_spec.specs.Bits.{bits_of}
use mir.Syntax.{w16}
use Rattle.std.proofs.lemmas.Int.{to_z-of_z}
use Rattle.jpg_spec.specs.Numbers.{category, extra_bits}
use Rattle.jpg_spec.proofs.Basics.Strings.{length-bits_of}
use Rattle.jpg_prog_read.specs.ExtraWork.{ExtraWork}
use Rattle.jpg_prog_read.proofs.extra.ExtraBits.value.Goals as goal

pub number_of-requires-clause-fits : goal.number_of-requires-clause-fits
number_of-requires-clause-fits c =
    let i = c.self.inside in
    let l : i.have ≡ i.size = sym (length-bits_of i.have i.number) ∙ ap (λ (s : ExtraWork). length s.bits) c.self.view_is ∙ c.requires ∙ ap (λ (s : ExtraWork). s.size) (sym c.self.view_is) in
    rw l at c.self.invariant.below

pub returns-clause-category : goal.returns-clause-category
returns-clause-category c = ap category (to_z-of_z w16 c.number_of.result (search rules)) ∙ c.number_of.ensures.category ∙ ap (λ (s : ExtraWork). s.size) c.self.view_is

pub returns-clause-extra : goal.returns-clause-extra
returns-clause-extra c =
    let i = c.self.inside in
    let l : i.have ≡ i.size = sym (length-bits_of i.have i.number) ∙ ap (λ (s : ExtraWork). length s.bits) c.self.view_is ∙ c.requires ∙ ap (λ (s : ExtraWork). s.size) (sym c.self.view_is) in
    ap extra_bits (to_z-of_z w16 c.number_of.result (search rules)) ∙ c.number_of.ensures.extra ∙ ap (λ n. bits_of n i.number) (sym l) ∙ ap (λ (s : ExtraWork). s.bits) c.self.view_is
