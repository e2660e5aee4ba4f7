use Rattle.std.proofs.Common.{◌≡◌, ◌≤◌, ◌+◌, length, drop, sum}
use Rattle.std.specs.Prelude.{slice_index}
use Rattle.jpg_spec_fit.specs.Fitted.{longest_moved}
use Rattle.jpg_fit.proofs.adjust.move_longest.Given as goal

abbrev pub invariant-loop-left : goal.invariant-loop-left
invariant-loop-left l = record {
  same : longest_moved l.left (drop (l.at + 1) l.counts) ≡ longest_moved (slice_index l.fn.counts l.at) (drop (l.at + 1) l.fn.counts);
  few : l.left + sum (drop (l.at + 1) l.counts) ≤ 257;
  size : length l.counts ≡ 272;
}

abbrev pub decreases-loop-left : goal.decreases-loop-left
decreases-loop-left l = l.left
