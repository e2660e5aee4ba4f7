use Rattle.std.proofs.Common.{◌≡◌, ◌∙◌, ap, sym, arith, length}
use Rattle.jpg_spec.proofs.Basics.Strings.{length-bits_of}
use Rattle.jpg_prog_read.specs.ExtraWork.{ExtraWork}
use Rattle.jpg_prog_read.proofs.extra.ExtraBits.wants.Goals as goal

pub returns-then-self : goal.returns-then-self
returns-then-self c =
    let i = c.self.inside in
    let l : length c.args.self.now.bits ≡ i.have = ap (λ (s : ExtraWork). length s.bits) (sym c.self.view_is) ∙ length-bits_of i.have i.number in
    let z : c.args.self.now.size ≡ i.size = ap (λ (s : ExtraWork). s.size) (sym c.self.view_is) in
    omega arith

pub returns-else-self : goal.returns-else-self
returns-else-self c =
    let i = c.self.inside in
    let l : length c.args.self.now.bits ≡ i.have = ap (λ (s : ExtraWork). length s.bits) (sym c.self.view_is) ∙ length-bits_of i.have i.number in
    let z : c.args.self.now.size ≡ i.size = ap (λ (s : ExtraWork). s.size) (sym c.self.view_is) in
    omega arith
