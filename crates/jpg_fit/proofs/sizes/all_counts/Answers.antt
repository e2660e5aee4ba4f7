use Rattle.std.proofs.Common.{◌≡◌, ◌++◌, ◌∷◌, [], ap, length, arith, rules, ◌∙◌}
use Rattle.std.proofs.lemmas.List.{length-set, get_or-set_other}
use Rattle.jpg_fit.proofs.Lists.{filled_more, last_filled}
use Rattle.jpg_fit.proofs.sizes.all_counts.Goals as goal

pub loop-i-preserved : goal.loop-i-preserved
loop-i-preserved c =
    let i = c.loop-i.i in
    let l : length c.args.counts.now ≡ 256 = search rules in
    let size = c.loop-i.invariant.size in
    record {
      front = filled_more c.loop-i.all c.args.counts.now i 0 (omega (arith, size, c.loop-i-test.true)) (omega (arith, l, c.loop-i-test.true)) c.loop-i.invariant.front;
      last = get_or-set_other c.loop-i.all i 256 _ 0 (λ e. omega (arith, e, c.loop-i-test.true)) ∙ c.loop-i.invariant.last;
      size = length-set c.loop-i.all i _ ∙ size;
    }

pub returns : goal.returns
returns c =
    let l : length c.args.counts.now ≡ 256 = search rules in
    last_filled c.loop-i.all c.args.counts.now c.loop-i.i (omega (arith, c.loop-i-test.false, c.loop-i.auto.i-end)) c.loop-i.invariant.size l c.loop-i.invariant.front ∙ ap (λ n. c.args.counts.now ++ n ∷ []) c.loop-i.invariant.last
