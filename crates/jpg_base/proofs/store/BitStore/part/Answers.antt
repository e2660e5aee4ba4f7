use Rattle.std.proofs.Common.{◌≡◌, ◌*◌, ◌%◌, ◌^◌, List, Bool, length, take, drop, sym, ap, ◌∙◌, mod-lt, arith}
use Rattle.jpg_spec.proofs.Basics.Strings.{length-bits_of}
use Rattle.std.proofs.lemmas.Nat.{pow_pos}
use Rattle.jpg_base.specs.Store.{low_of}
use Rattle.jpg_base.proofs.BitsAt.{middle_high, high_fits}
use Rattle.jpg_base.proofs.store.BitStore.part.Goals as goal

pub overflow_shl-result : goal.overflow_shl-result
overflow_shl-result c =
    let l : length c.args.self.now ≡ c.self.inside.count = ap length (sym c.self.view_is) ∙ length-bits_of c.self.inside.count (low_of c.self.inside.count c.self.inside.word) in
    omega (arith, c.requires.there, c.requires.some, c.self.invariant.0)

pub returns-clause-value : goal.returns-clause-value
returns-clause-value c =
    let l : length c.args.self.now ≡ c.self.inside.count = ap length (sym c.self.view_is) ∙ length-bits_of c.self.inside.count (low_of c.self.inside.count c.self.inside.word) in
    middle_high c.self.inside.word c.self.inside.count c.args.before c.args.n (omega (arith, c.requires.there)) c.self.invariant.0 c.self.invariant.1
    ∙ ap (λ (x : List Bool). take c.args.n (drop c.args.before x)) c.self.view_is

pub returns-clause-fits : goal.returns-clause-fits
returns-clause-fits c = high_fits (c.self.inside.word * 2 ^ c.args.before % 2 ^ 64) c.args.n (omega (arith, c.requires.few)) (mod-lt (c.self.inside.word * 2 ^ c.args.before) (pow_pos 64))
