use Rattle.std.specs.Prelude.{◌≡◌}
use Rattle.jpg_spec.specs.Lists.{all_of, below}
use Rattle.jpg_scans.specs.Progress.{begun_at}
use Rattle.jpg_scans.proofs.progress.Progress.is_complete.Given as goal

abbrev pub invariant-loop-i : goal.invariant-loop-i
invariant-loop-i l = l.all ≡ all_of (begun_at l.self) (below l.i)
