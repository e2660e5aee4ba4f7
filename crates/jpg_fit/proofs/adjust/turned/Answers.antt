use Rattle.std.proofs.Common.{◌≡◌, ◌+◌, ◌-◌, take, set, length, get_or, sym, ap, ◌∙◌, arith, rules}
use Rattle.std.specs.Prelude.{reverse}
use Rattle.std.proofs.lemmas.List.{length-set, length-reverse, get_or-reverse}
use Rattle.jpg_fit.proofs.Lists.{filled_more, filled_all}
use Rattle.jpg_fit.proofs.adjust.turned.Goals as goal

pub loop-i-preserved : goal.loop-i-preserved
loop-i-preserved c =
    let i = c.loop-i.i in
    let counts = c.args.counts.now in
    let l : length counts ≡ 16 = search rules in
    let long = length-reverse counts in
    let size = c.loop-i.invariant.size in
    let e : length counts - 1 - i ≡ 15 - i = omega (arith, l) in
    let here = get_or-reverse counts i 0 (omega (arith, l, c.loop-i-test.true)) ∙ ap (λ k. get_or counts k 0) e in
    record {
      same = ap (λ n. take (i + 1) (set c.loop-i.bits i n)) (sym here) ∙ filled_more c.loop-i.bits (reverse counts) i 0 (omega (arith, size, c.loop-i-test.true)) (omega (arith, l, long, c.loop-i-test.true)) c.loop-i.invariant.same;
      size = length-set c.loop-i.bits i _ ∙ size;
    }

pub returns : goal.returns
returns c =
    let counts = c.args.counts.now in
    let l : length counts ≡ 16 = search rules in
    let long = length-reverse counts in
    filled_all c.loop-i.bits (reverse counts) c.loop-i.i 16 (omega (arith, c.loop-i-test.false, c.loop-i.auto.i-end)) c.loop-i.invariant.size (omega (arith, l, long)) c.loop-i.invariant.same
