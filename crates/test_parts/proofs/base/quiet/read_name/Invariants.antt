use Rattle.std.specs.Prelude.{◌≡◌, true}
use Rattle.jpg_base.specs.Quiet.{quiet_state}
use Rattle.test_parts.proofs.base.quiet.read_name.Given as goal

abbrev pub invariant-loop-word : goal.invariant-loop-word
invariant-loop-word l =
    (goal.iterator-loop-word).can_next l.word-iterator ×
    (goal.iterator-loop-word).is_finite l.word-iterator ×
    ((quiet_state l.desk).input_open ≡ true)
