use Rattle.std.proofs.Common.{◌≡◌, ◌∙◌, ap, sym, arith, length, ◌+◌, ◌*◌, ◌^◌, ◌<◌, ◌-◌, ℕ, add-one}
use Rattle.std.proofs.lemmas.Nat.{one_shl}
use Rattle.std.proofs.Math.Nat.{pow-succ'}
use Rattle.jpg_spec.specs.Bits.{bits_of}
use Rattle.jpg_spec.specs.Numbers.{digits}
use Rattle.jpg_spec.proofs.Basics.Strings.{length-bits_of}
use Rattle.jpg_spec.proofs.Basics.Facts.{bits_high}
use Rattle.jpg_spec.proofs.Bits.ExtraBits.{digits_high}
use Rattle.jpg_prog_read.specs.ExtraWork.{ExtraWork}
use Rattle.jpg_prog_read.proofs.extra.ExtraBits.bands.Goals as goal

pub returns-clause-digits : goal.returns-clause-digits
returns-clause-digits c =
    let i = c.self.inside in
    let z : i.size ≡ c.args.self.now.size = ap (λ (s : ExtraWork). s.size) c.self.view_is in
    let l : i.have ≡ i.size = sym (length-bits_of i.have i.number) ∙ ap (λ (s : ExtraWork). length s.bits) c.self.view_is ∙ c.requires.whole ∙ sym z in
    let b : i.number < 2 ^ i.size = rw l at c.self.invariant.below in
    let s = one_shl i.size 32 (omega (arith, z, c.requires.size)) in
    let p : 2 ^ (i.size + 1) ≡ 2 * 2 ^ i.size = ap (λ m. 2 ^ m) (add-one i.size) ∙ pow-succ' 2 i.size in
    let m : i.size + 1 - 1 ≡ i.size = omega arith in
    let q : 2 ^ (i.size + 1 - 1) ≡ 2 ^ i.size = ap (λ k. 2 ^ k) m in
    ap (λ (k : ℕ). digits (k + i.number)) s ∙ digits_high (i.size + 1) (2 ^ i.size + i.number) (omega arith) (omega (arith, q)) (omega (arith, p, b)) ∙ ap (λ k. k + 1) z

pub returns-clause-extra : goal.returns-clause-extra
returns-clause-extra c =
    let i = c.self.inside in
    let z : i.size ≡ c.args.self.now.size = ap (λ (s : ExtraWork). s.size) c.self.view_is in
    let l : i.have ≡ i.size = sym (length-bits_of i.have i.number) ∙ ap (λ (s : ExtraWork). length s.bits) c.self.view_is ∙ c.requires.whole ∙ sym z in
    let s = one_shl i.size 32 (omega (arith, z, c.requires.size)) in
    ap (λ (k : ℕ). bits_of c.args.self.now.size (k + i.number)) s
    ∙ ap (λ (k : ℕ). bits_of k (2 ^ i.size + i.number)) (sym z) ∙ bits_high i.size i.number ∙ ap (λ k. bits_of k i.number) (sym l) ∙ ap (λ (s : ExtraWork). s.bits) c.self.view_is
