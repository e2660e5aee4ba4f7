use Rattle.std.proofs.Common.{◌≡◌, ◌≤◌, ◌-◌, length, drop, sum}
use Rattle.jpg_spec_fit.specs.Fitted.{limited}
use Rattle.jpg_fit.proofs.adjust.limit.Given as goal

abbrev pub invariant-loop-at : goal.invariant-loop-at
invariant-loop-at l = record {
  same : limited (256 - l.at) (drop l.at l.counts) ≡ limited 256 l.fn.counts;
  few : sum (drop l.at l.counts) ≤ 257;
  size : length l.counts ≡ 272;
}
