use Rattle.jpg_base.specs.Memory.{memory_state}
use Rattle.test_parts.specs.Desks.{IsReady}
use Rattle.test_parts.proofs.base.desks.memory.Given as goal

abbrev pub invariant-loop-field : goal.invariant-loop-field
invariant-loop-field l = IsReady l.ready (memory_state l.desk)
