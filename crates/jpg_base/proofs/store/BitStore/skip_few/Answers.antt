use Rattle.std.proofs.Common.{◌≡◌, ◌≤◌, ◌-◌, ◌*◌, ◌%◌, ◌^◌, length, drop, sym, ap, ◌∙◌, arith}
use Rattle.jpg_spec.proofs.Basics.Strings.{length-bits_of}
use Rattle.jpg_base.specs.Store.{low_of}
use Rattle.jpg_base.proofs.BitsAt.{skipped, skipped_bits, high_from}
use Rattle.jpg_base.proofs.store.BitStore.skip_few.Goals as goal

pub overflow_sub-self : goal.overflow_sub-self
overflow_sub-self c =
    let l : length c.args.self.now ≡ c.self.inside.count = ap length (sym c.self.view_is) ∙ length-bits_of c.self.inside.count (low_of c.self.inside.count c.self.inside.word) in
    omega (arith, c.requires.there)

pub invariant_of-self : goal.invariant_of-self
invariant_of-self c =
    let l : length c.args.self.now ≡ c.self.inside.count = ap length (sym c.self.view_is) ∙ length-bits_of c.self.inside.count (low_of c.self.inside.count c.self.inside.word) in
    let i = c.self.inside in
    let there : c.args.n ≤ i.count = omega (arith, c.requires.there) in
    let less : i.count - c.args.n ≤ 64 = omega (arith, c.self.invariant.0) in
    (less, high_from (i.word * 2 ^ c.args.n % 2 ^ 64) (low_of i.count i.word % 2 ^ (i.count - c.args.n)) (i.count - c.args.n) (skipped i.word i.count c.args.n there c.self.invariant.0 c.self.invariant.1))

pub returns : goal.returns
returns c =
    let l : length c.args.self.now ≡ c.self.inside.count = ap length (sym c.self.view_is) ∙ length-bits_of c.self.inside.count (low_of c.self.inside.count c.self.inside.word) in
    skipped_bits c.self.inside.word c.self.inside.count c.args.n (omega (arith, c.requires.there)) c.self.invariant.0 c.self.invariant.1 ∙ ap (drop c.args.n) c.self.view_is
