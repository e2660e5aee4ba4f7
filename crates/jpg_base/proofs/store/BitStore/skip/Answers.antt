use Rattle.std.proofs.Common.{◌≡◌, ◌≤◌, ◌-◌, ◌^◌, length, drop, sym, ap, ◌∙◌, zero-mul, arith}
use Rattle.jpg_spec.proofs.Basics.Strings.{length-bits_of}
use Rattle.jpg_base.specs.Store.{low_of}
use Rattle.jpg_base.proofs.BitsAt.{emptied, high_from}
use Rattle.jpg_base.proofs.store.BitStore.skip.Goals as goal

pub overflow_sub-self : goal.overflow_sub-self
overflow_sub-self c =
    let l : length c.args.self.now ≡ c.self.inside.count = ap length (sym c.self.view_is) ∙ length-bits_of c.self.inside.count (low_of c.self.inside.count c.self.inside.word) in
    omega (arith, c.requires)

pub invariant_of-self : goal.invariant_of-self
invariant_of-self c =
    let i = c.self.inside in
    let less : i.count - c.args.n ≤ 64 = omega (arith, c.self.invariant.0) in
    (less, high_from 0 0 (i.count - c.args.n) (sym (zero-mul (2 ^ (64 - (i.count - c.args.n))))))

pub returns-else-n-lt64 : goal.returns-else-n-lt64
returns-else-n-lt64 c =
    let l : length c.args.self.now ≡ c.self.inside.count = ap length (sym c.self.view_is) ∙ length-bits_of c.self.inside.count (low_of c.self.inside.count c.self.inside.word) in
    emptied c.args.n c.self.inside.count (low_of c.self.inside.count c.self.inside.word) (omega (arith, c.requires)) (omega (arith, c.self.invariant.0, c.if-n-lt64.false)) ∙ ap (drop c.args.n) c.self.view_is
