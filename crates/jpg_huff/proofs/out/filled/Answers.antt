use Rattle.std.proofs.Common.{◌≡◌, ◌<◌, ◌+◌, ◌-◌, ◌^◌, ◌++◌, sym, ap, ◌∙◌, subst, arith}
use Rattle.jpg_spec.specs.Bits.{bits_of}
use Rattle.jpg_huff.proofs.Putting.{filled_bits, filled_fits}
use Rattle.jpg_huff.proofs.out.filled.Goals as goal

pub returns : goal.returns
returns c =
    let w = c.args in
    let t = w.held + w.count - 64 in
    let r = w.count - t in
    let s : w.held + r ≡ 64 = omega (arith, c.requires.held, c.requires.count.0, c.requires.count.1) in
    let k : r + t ≡ w.count = omega (arith, c.requires.held, c.requires.count.0, c.requires.count.1) in
    let below : w.bits < 2 ^ (r + t) = subst (λ n. w.bits < 2 ^ n) (sym k) c.requires.bits in
    filled_bits w.word w.held r t w.bits c.from.result c.requires.word s below c.from.ensures ∙ ap (λ n. bits_of w.held w.word ++ bits_of n w.bits) k

pub overflow_add-result : goal.overflow_add-result
overflow_add-result c =
    let w = c.args in
    let t = w.held + w.count - 64 in
    let r = w.count - t in
    let s : w.held + r ≡ 64 = omega (arith, c.requires.held, c.requires.count.0, c.requires.count.1) in
    let k : r + t ≡ w.count = omega (arith, c.requires.held, c.requires.count.0, c.requires.count.1) in
    let below : w.bits < 2 ^ (r + t) = subst (λ n. w.bits < 2 ^ n) (sym k) c.requires.bits in
    record { fits = filled_fits w.word w.held r t w.bits c.from.result c.requires.word s below c.from.ensures }
