use Rattle.std.proofs.Common.{◌+◌, ◌-◌, sym, ap, ◌∙◌, arith}
use Rattle.jpg_spec_fit.specs.Fitted.{limited}
use Rattle.jpg_fit.proofs.Splits.{limited_more, limited_end}
use Rattle.jpg_fit.proofs.adjust.limit.Goals as goal

pub loop-at-preserved : goal.loop-at-preserved
loop-at-preserved c =
    let at = c.loop-at.at in
    let l = c.loop-at.invariant.size in
    record {
      same = ap (limited (256 - (at + 1))) c.move_longest.ensures.moved ∙ sym (limited_more 256 at c.loop-at.counts c.loop-at-test.true (omega (arith, l, c.loop-at-test.true))) ∙ c.loop-at.invariant.same;
      few = c.move_longest.ensures.few;
      size = c.move_longest.array_long;
    }

pub returns : goal.returns
returns c = limited_end c.loop-at.at c.loop-at.counts (limited 256 c.args.counts.now) (omega (arith, c.loop-at-test.false, c.loop-at.auto.at-end)) c.loop-at.invariant.same
