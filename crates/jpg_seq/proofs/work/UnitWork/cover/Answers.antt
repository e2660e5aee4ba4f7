use Rattle.std.proofs.Common.{◌≡◌, ◌++◌, List, ℤ, length, sym, ap, ◌∙◌, arith, length-take-le}
use Rattle.jpg_spec.specs.Elements.{zeros}
use Rattle.jpg_seq.specs.Work.{Work}
use Rattle.jpg_seq.proofs.Elements.{covered_so_far, cover_values}
use Rattle.jpg_seq.proofs.work.UnitWork.cover.Goals as goal

pub invariant_of-self : goal.invariant_of-self
invariant_of-self c =
    let i = c.self.inside in let k = c.self.invariant in
    let l : length c.args.self.now.values ≡ i.at = ap (λ (s : Work). length s.values) (sym c.self.view_is) ∙ length-take-le i.at i.values (omega (arith, k.whole, k.at_most)) in
    covered_so_far i.values i.at c.args.count i.part k (omega (arith, c.requires))

pub returns : goal.returns
returns c =
    let i = c.self.inside in let k = c.self.invariant in
    let l : length c.args.self.now.values ≡ i.at = ap (λ (s : Work). length s.values) (sym c.self.view_is) ∙ length-take-le i.at i.values (omega (arith, k.whole, k.at_most)) in
    ap (λ (vs : List ℤ). (let n : Work = record { values = vs; part = i.part } in n)) (cover_values i.values i.at c.args.count k.whole (omega (arith, c.requires)) k.rest)
    ∙ ap (λ (s : Work). (let n : Work = record s { values = s.values ++ zeros c.args.count } in n)) c.self.view_is
