use Rattle.std.proofs.Common.{◌≡◌, map, sym, ap, arith, ◌∙◌}
use Rattle.std.proofs.lemmas.List.{length-set, take_all}
use Rattle.jpg_spec.specs.Lists.{below}
use Rattle.jpg_fit.proofs.Lists.{below_filled}
use Rattle.jpg_fit.proofs.sizes.alone.Goals as goal

pub loop-i-preserved : goal.loop-i-preserved
loop-i-preserved c =
    let size = c.loop-i.invariant.size in
    record {
      same = below_filled (λ symbol. (symbol, 0)) c.loop-i.members c.loop-i.i (omega (arith, size, c.loop-i-test.true)) c.loop-i.invariant.same;
      size = length-set c.loop-i.members c.loop-i.i _ ∙ size;
    }

pub returns : goal.returns
returns c =
    let size = c.loop-i.invariant.size in
    let e : c.loop-i.i ≡ 257 = omega (arith, c.loop-i-test.false, c.loop-i.auto.i-end) in
    sym (take_all c.loop-i.i c.loop-i.members (omega (arith, size, e))) ∙ c.loop-i.invariant.same ∙ ap (λ n. map (λ symbol. (symbol, 0)) (below n)) e
