use Rattle.std.proofs.Common.{◌≡◌, ◌≤◌, ◌<◌, ◌-◌}
use Rattle.jpg_fit.specs.Split.{split_at}
use Rattle.jpg_fit.proofs.adjust.split.Given as goal

abbrev pub invariant-loop-i : goal.invariant-loop-i
invariant-loop-i l = record {
  past : l.at ≤ l.i;
  within : l.i < 272;
  same : split_at l.i l.counts ≡ split_at l.at l.fn.counts;
}

abbrev pub decreases-loop-i : goal.decreases-loop-i
decreases-loop-i l = 271 - l.i
