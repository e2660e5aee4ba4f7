use Rattle.std.proofs.Common.{◌≡◌, ◌+◌, take, set, drop, length, sym, ap, ◌∙◌, arith, rules}
use Rattle.std.proofs.lemmas.List.{length-set, length-drop, get_or-drop}
use Rattle.jpg_fit.proofs.Lists.{filled_more, filled_all}
use Rattle.jpg_fit.proofs.adjust.short_sizes.Goals as goal

pub loop-i-preserved : goal.loop-i-preserved
loop-i-preserved c =
    let i = c.loop-i.i in
    let counts = c.args.counts.now in
    let l : length counts ≡ 272 = search rules in
    let long = length-drop 256 counts in
    let size = c.loop-i.invariant.size in
    record {
      same = ap (λ n. take (i + 1) (set c.loop-i.short i n)) (sym (get_or-drop 256 counts i 0)) ∙ filled_more c.loop-i.short (drop 256 counts) i 0 (omega (arith, size, c.loop-i-test.true)) (omega (arith, l, long, c.loop-i-test.true)) c.loop-i.invariant.same;
      size = length-set c.loop-i.short i _ ∙ size;
    }

pub returns : goal.returns
returns c =
    let counts = c.args.counts.now in
    let l : length counts ≡ 272 = search rules in
    let long = length-drop 256 counts in
    filled_all c.loop-i.short (drop 256 counts) c.loop-i.i 16 (omega (arith, c.loop-i-test.false, c.loop-i.auto.i-end)) c.loop-i.invariant.size (omega (arith, l, long)) c.loop-i.invariant.same
