use Rattle.jpg_base.specs.Standard.{std_state}
use Rattle.test_parts.specs.Desks.{IsReady}
use Rattle.test_parts.proofs.base.desks.real.Given as goal

abbrev pub invariant-loop-field : goal.invariant-loop-field
invariant-loop-field l = IsReady l.ready (std_state l.desk.reported)
