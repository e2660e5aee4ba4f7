use Rattle.std.proofs.Common.{◌≡◌, ◌+◌, ◌-◌, drop, length, sum, sym, ap, ◌∙◌, arith}
use Rattle.jpg_spec_fit.specs.Fitted.{longest_moved}
use Rattle.jpg_fit.proofs.Splits.{moved_two, moved_few}
use Rattle.jpg_fit.proofs.adjust.move_longest.Goals as goal

pub loop-left-preserved : goal.loop-left-preserved
loop-left-preserved c =
    let counts = c.loop-left.counts in
    let at = c.args.at + 1 in
    let l : length counts ≡ 272 = c.loop-left.invariant.size in
    let few = moved_few at counts (omega (arith, l, c.requires.within)) in
    let now = ap (λ x. sum (drop at x)) c.split.ensures in
    record {
      same = ap (λ x. longest_moved (c.loop-left.left - 2) (drop at x)) c.split.ensures ∙ sym (moved_two c.loop-left.left at counts c.loop-left-test.true (omega (arith, l, c.requires.within))) ∙ c.loop-left.invariant.same;
      few = omega (arith, few, now, c.loop-left.invariant.few, c.loop-left-test.true);
      size = c.split.array_long;
    }
