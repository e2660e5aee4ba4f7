use Rattle.std.proofs.Common.{◌≡◌, ◌∙◌, ap, sym, arith, ◌+◌, ◌*◌, [], ◌∷◌, ◌++◌, length, List, Bool}
use Rattle.jpg_spec.specs.Bits.{bits_of}
use Rattle.jpg_spec.proofs.Basics.Strings.{length-bits_of, bits_of-more}
use Rattle.jpg_huff.proofs.Steps.{bit_value_is}
use Rattle.jpg_prog_read.specs.ExtraWork.{ExtraWork}
use Rattle.jpg_huff.proofs.Categories.{fits_more}
use Rattle.jpg_prog_read.proofs.extra.ExtraBits.add.Goals as goal

pub invariant_of-self : goal.invariant_of-self
invariant_of-self c =
    let k = c.self.invariant in
    let i = c.self.inside in
    let l : length c.args.self.now.bits ≡ i.have = ap (λ (s : ExtraWork). length s.bits) (sym c.self.view_is) ∙ length-bits_of i.have i.number in
    let z : c.args.self.now.size ≡ i.size = ap (λ (s : ExtraWork). s.size) (sym c.self.view_is) in
    record { small = k.small; fewer = omega arith; below = rw (sym (c.from.ensures ∙ bit_value_is c.args.bit)) at (fits_more i.number i.have c.args.bit k.below) }

pub returns : goal.returns
returns c =
    let i = c.self.inside in
    ap (λ (e : List Bool). (let n : ExtraWork = record { size = i.size; bits = e } in n))
    (ap (λ m. bits_of (i.have + 1) (2 * i.number + m)) (c.from.ensures ∙ bit_value_is c.args.bit) ∙ bits_of-more i.have i.number c.args.bit)
    ∙ ap (λ (s : ExtraWork). (let n : ExtraWork = record s { bits = s.bits ++ c.args.bit ∷ [] } in n)) c.self.view_is
