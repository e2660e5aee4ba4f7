use Rattle.std.proofs.Common.{◌++◌, take, ap, sym, ◌∙◌, List, Bool, arith}
use Rattle.std.proofs.lemmas.List.{append-nil, nil_from_length}
use Rattle.jpg_spec.specs.Bits.{bits_of}
use Rattle.jpg_base.proofs.BitsAt.{take_some}
use Rattle.jpg_base.proofs.store.BitStore.joined.Goals as goal

pub returns-then-n-gt0 : goal.returns-then-n-gt0
returns-then-n-gt0 c =
    c.append.ensures ∙ ap (λ (x : List Bool). x ++ bits_of c.min-n.result c.part.result) c.self.view_is
    ∙ ap (λ (x : List Bool). c.args.self.now ++ x) (c.part.ensures.value ∙ take_some c.args.store.now c.min-n.result (omega (arith, c.min-n.ensures, c.len.ensures.value)))

pub returns-else-n-gt0 : goal.returns-else-n-gt0
returns-else-n-gt0 c =
    c.self.view_is ∙ sym (append-nil c.args.self.now) ∙ ap (λ (x : List Bool). c.args.self.now ++ x) (ap (take 32) (sym (nil_from_length c.args.store.now (omega (arith, c.min-n.ensures, c.len.ensures.value, c.if-n-gt0.false)))))
