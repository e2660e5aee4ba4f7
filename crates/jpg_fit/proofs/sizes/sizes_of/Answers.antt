use Rattle.std.proofs.Common.{◌≡◌, ℕ, length, map, sym, ap, arith, rules, ◌∙◌}
use Rattle.std.proofs.lemmas.List.{length-set, take_all}
use Rattle.jpg_fit.proofs.Lists.{map_filled}
use Rattle.jpg_fit.proofs.sizes.sizes_of.Goals as goal

pub loop-i-preserved : goal.loop-i-preserved
loop-i-preserved c =
    let size = c.loop-i.invariant.size in
    let l : length c.args.members.now ≡ 257 = search rules in
    record {
      same = map_filled (λ (m : ℕ × ℕ). m.1) c.loop-i.sizes c.args.members.now c.loop-i.i (0, 0) (omega (arith, size, c.loop-i-test.true)) (omega (arith, l, c.loop-i-test.true)) c.loop-i.invariant.same;
      size = length-set c.loop-i.sizes c.loop-i.i _ ∙ size;
    }

pub returns : goal.returns
returns c =
    let size = c.loop-i.invariant.size in
    let l : length c.args.members.now ≡ 257 = search rules in
    sym (take_all c.loop-i.i c.loop-i.sizes (omega (arith, size, c.loop-i-test.false))) ∙ c.loop-i.invariant.same ∙ ap (map (λ (m : ℕ × ℕ). m.1)) (take_all c.loop-i.i c.args.members.now (omega (arith, l, c.loop-i-test.false)))
