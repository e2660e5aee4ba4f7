use Rattle.std.proofs.Common.{drop_of_length-le, ◌≡◌, ◌++◌, List, Bool, length, take, ap, sym, ◌∙◌, arith, length-append, take_all}
use Rattle.jpg_seq.specs.Work.{Work}
use Rattle.jpg_seq.proofs.work.UnitWork.keep.Goals as goal

pub invariant_of-self : goal.invariant_of-self
invariant_of-self c =
    let i = c.self.inside in let k = c.self.invariant in
    let p : c.args.self.now.part ≡ i.part = ap (λ (s : Work). s.part) (sym c.self.view_is) in
    let all : take 32 c.args.store.now ≡ c.args.store.now = take_all 32 c.args.store.now (omega (arith, c.requires)) in
    record { whole = k.whole; at_most = k.at_most; rest = k.rest; few = omega (arith, ap length c.take_from.ensures.taken, length-append i.part (take 32 c.args.store.now), ap length all, c.requires, ap length p) }

pub returns-clause-work : goal.returns-clause-work
returns-clause-work c =
    let i = c.self.inside in
    let all : take 32 c.args.store.now ≡ c.args.store.now = take_all 32 c.args.store.now (omega (arith, c.requires)) in
    ap (λ (q : List Bool). (let n : Work = record { values = take i.at i.values; part = q } in n)) (c.take_from.ensures.taken ∙ ap (λ (z : List Bool). i.part ++ z) all)
    ∙ ap (λ (s : Work). (let n : Work = record s { part = s.part ++ c.args.store.now } in n)) c.self.view_is

pub returns-clause-empty : goal.returns-clause-empty
returns-clause-empty c = c.take_from.ensures.left ∙ drop_of_length-le c.args.store.now {i = 32} (omega (arith, c.requires))
