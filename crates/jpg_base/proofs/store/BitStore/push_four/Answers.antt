use Rattle.std.proofs.Common.{◌++◌, ap, ◌∙◌, List, Bool}
use Rattle.jpg_spec.specs.Bits.{bits_of}
use Rattle.jpg_base.proofs.BitsAt.{four_bytes}
use Rattle.jpg_base.proofs.store.BitStore.push_four.Goals as goal

pub returns : goal.returns
returns c =
    let n = c.number_of in
    c.append.ensures ∙ ap (λ (x : List Bool). c.args.self.now ++ x)
    (ap (bits_of 32) n.ensures.value ∙ four_bytes c.args.a c.args.b c.args.c c.args.d n.ensures.bytes.0 n.ensures.bytes.1 n.ensures.bytes.2)
