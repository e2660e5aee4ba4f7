use Rattle.std.specs.Prelude.{◌≤◌, ◌-◌}
use Rattle.jpg_base.proofs.placing.copy_part.Given as goal

abbrev pub decreases-loop-done : goal.decreases-loop-done
decreases-loop-done g l = l.count - l.done

abbrev pub invariant-loop-done : goal.invariant-loop-done
invariant-loop-done g l = l.done ≤ l.count
