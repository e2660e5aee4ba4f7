use Rattle.std.proofs.Common.{◌≡◌, ◌≤◌, ◌++◌, ◌+◌, ◌*◌, ◌-◌, ◌^◌, ◌%◌, List, Bool, length, sym, ap, ◌∙◌, arith}
use Rattle.jpg_spec.specs.Bits.{bits_of}
use Rattle.jpg_spec.proofs.Basics.Strings.{length-bits_of}
use Rattle.std.specs.Int.Bits.{bit_or}
use Rattle.jpg_base.specs.Store.{low_of}
use Rattle.jpg_base.proofs.BitsAt.{appended, appended_bits, high_from}
use Rattle.jpg_base.proofs.store.BitStore.append.Goals as goal

pub overflow_sub-self : goal.overflow_sub-self
overflow_sub-self c =
    let l : length c.args.self.now ≡ c.self.inside.count = ap length (sym c.self.view_is) ∙ length-bits_of c.self.inside.count (low_of c.self.inside.count c.self.inside.word) in
    omega (arith, c.requires.room)

pub invariant_of-self : goal.invariant_of-self
invariant_of-self c =
    let l : length c.args.self.now ≡ c.self.inside.count = ap length (sym c.self.view_is) ∙ length-bits_of c.self.inside.count (low_of c.self.inside.count c.self.inside.word) in
    let i = c.self.inside in
    let room : i.count + c.args.n ≤ 64 = omega (arith, c.requires.room) in
    (room, high_from (bit_or i.word (c.args.number * 2 ^ (64 - (i.count + c.args.n)) % 2 ^ 64)) (low_of i.count i.word * 2 ^ c.args.n + c.args.number) (i.count + c.args.n) (appended i.word i.count c.args.n c.args.number room c.requires.fits c.self.invariant.1))

pub returns : goal.returns
returns c =
    let l : length c.args.self.now ≡ c.self.inside.count = ap length (sym c.self.view_is) ∙ length-bits_of c.self.inside.count (low_of c.self.inside.count c.self.inside.word) in
    appended_bits c.self.inside.word c.self.inside.count c.args.n c.args.number (omega (arith, c.requires.room)) c.requires.fits c.self.invariant.1
    ∙ ap (λ (x : List Bool). x ++ bits_of c.args.n c.args.number) c.self.view_is
