use Rattle.std.proofs.Common.{rules, ◌≡◌, ◌+◌, ◌++◌, ◌∷◌, [], List, ℕ, ℤ, length, take, set, sym, ap, ◌∙◌, subst, arith, length-take-le, append_assoc, w16, to_z-of_z}
use Rattle.jpg_spec.specs.Elements.{zeros}
use Rattle.jpg_seq.specs.Work.{Work, IsBlockSoFar}
use Rattle.jpg_seq.proofs.Elements.{placed_so_far, place_values}
use Rattle.jpg_seq.proofs.work.UnitWork.place.Goals as goal

pub invariant_of-self : goal.invariant_of-self
invariant_of-self c =
    let i = c.self.inside in let k = c.self.invariant in
    let l : length c.args.self.now.values ≡ i.at = ap (λ (s : Work). length s.values) (sym c.self.view_is) ∙ length-take-le i.at i.values (omega (arith, k.whole, k.at_most)) in
    let e : i.at + (c.args.run + 1) ≡ i.at + c.args.run + 1 = omega arith in
    subst (λ (n : ℕ). IsBlockSoFar c.set.new.self n i.part) e
    (placed_so_far i.values c.set.new.self i.at c.args.run c.args.value i.part k (omega (arith, c.requires)) (c.set.ensures.value ∙ ap (λ (v : ℤ). set i.values (i.at + c.args.run) v) (to_z-of_z {w = w16} {z = c.args.value} (search rules))))

pub returns : goal.returns
returns c =
    let i = c.self.inside in let k = c.self.invariant in
    let l : length c.args.self.now.values ≡ i.at = ap (λ (s : Work). length s.values) (sym c.self.view_is) ∙ length-take-le i.at i.values (omega (arith, k.whole, k.at_most)) in
    let e : i.at + c.args.run + 1 ≡ i.at + (c.args.run + 1) = omega arith in
    ap (λ (vs : List ℤ). (let n : Work = record { values = vs; part = i.part } in n))
    (ap (λ (n : ℕ). take n c.set.new.self) e ∙ ap (take (i.at + (c.args.run + 1))) (c.set.ensures.value ∙ ap (λ (v : ℤ). set i.values (i.at + c.args.run) v) (to_z-of_z {w = w16} {z = c.args.value} (search rules))) ∙ place_values i.values i.at c.args.run c.args.value k.whole (omega (arith, c.requires)) k.rest
    ∙ append_assoc (take i.at i.values) (zeros c.args.run) (c.args.value ∷ []))
    ∙ ap (λ (s : Work). (let n : Work = record s { values = s.values ++ (zeros c.args.run ++ c.args.value ∷ []) } in n)) c.self.view_is
