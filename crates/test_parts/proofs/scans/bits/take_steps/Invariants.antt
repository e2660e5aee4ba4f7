use Rattle.std.specs.Prelude.{◌≡◌, true}
use Rattle.jpg_base.specs.Memory.{memory_state}
use Rattle.test_parts.proofs.scans.bits.take_steps.Given as goal

abbrev pub invariant-loop-step : goal.invariant-loop-step
invariant-loop-step l =
    (goal.iterator-loop-step).can_next l.step-iterator ×
    (goal.iterator-loop-step).is_finite l.step-iterator ×
    ((memory_state l.desk).output_created ≡ true)
