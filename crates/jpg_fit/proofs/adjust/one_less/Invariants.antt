use Rattle.std.proofs.Common.{◌≡◌, ◌≤◌, ◌-◌}
use Rattle.jpg_spec_fit.specs.Fitted.{one_less}
use Rattle.jpg_fit.proofs.Splits.{less_at}
use Rattle.jpg_fit.proofs.adjust.one_less.Given as goal

abbrev pub invariant-loop-i : goal.invariant-loop-i
invariant-loop-i l = record {
  within : l.i ≤ 16;
  same : less_at l.i l.counts ≡ one_less l.fn.counts;
}

abbrev pub decreases-loop-i : goal.decreases-loop-i
decreases-loop-i l = 16 - l.i
