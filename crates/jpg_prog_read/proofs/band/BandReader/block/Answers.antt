use Rattle.std.proofs.Common.{◌≡◌, ◌∙◌, ap, subst, arith, ◌++◌, length, ◌-◌, take, drop, List, ℤ}
use Rattle.jpg_prog_read.specs.InWork.{InWork}
use Rattle.jpg_prog_read.proofs.Leaf.{whole_values}
use Rattle.jpg_prog_read.proofs.band.BandReader.block.Goals as goal

pub returns-clause-value : goal.returns-clause-value
returns-clause-value c =
    let i = c.self.inside in let k = c.self.invariant in
    let z : length (take (i.end - i.at) (drop i.at i.values)) ≡ 0 = ap (λ (s : InWork). length s.rest) c.self.view_is ∙ ap (λ (l : List ℤ). length l) c.requires in
    subst (λ (s : InWork). i.values ≡ s.front ++ (s.done ++ s.behind)) c.self.view_is (whole_values i.values i.start i.at i.end k.begins k.inside (omega (arith, k.whole, k.fits)) z)
