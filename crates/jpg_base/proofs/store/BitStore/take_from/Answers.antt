use Rattle.std.proofs.Common.{◌≡◌, ◌++◌, [], List, Bool, take, drop, sym, ap, ◌∙◌, arith}
use Rattle.std.proofs.lemmas.List.{append-nil, nil_from_length}
use Rattle.jpg_base.proofs.BitsAt.{take_some, drop_some}
use Rattle.jpg_base.proofs.store.BitStore.take_from.Goals as goal

pub returns-then-n-gt0-clause-taken : goal.returns-then-n-gt0-clause-taken
returns-then-n-gt0-clause-taken c =
    c.append.ensures ∙ ap (λ (x : List Bool). c.args.self.now ++ x) (c.part-number.ensures.value ∙ take_some c.args.store.now c.min-n.result (omega (arith, c.min-n.ensures, c.len.ensures.value)))

pub returns-then-n-gt0-clause-left : goal.returns-then-n-gt0-clause-left
returns-then-n-gt0-clause-left c = c.skip_few.ensures ∙ drop_some c.args.store.now c.min-n.result (omega (arith, c.min-n.ensures, c.len.ensures.value))

pub returns-else-n-gt0-clause-taken : goal.returns-else-n-gt0-clause-taken
returns-else-n-gt0-clause-taken c =
    let none : c.args.store.now ≡ [] = nil_from_length c.args.store.now (omega (arith, c.min-n.ensures, c.len.ensures.value, c.if-n-gt0.false)) in
    sym (append-nil c.args.self.now) ∙ ap (λ (x : List Bool). c.args.self.now ++ take 32 x) (sym none)

pub returns-else-n-gt0-clause-left : goal.returns-else-n-gt0-clause-left
returns-else-n-gt0-clause-left c =
    let none : c.args.store.now ≡ [] = nil_from_length c.args.store.now (omega (arith, c.min-n.ensures, c.len.ensures.value, c.if-n-gt0.false)) in
    none ∙ sym (ap (drop 32) none)
