use Rattle.jpg_base.specs.Memory.{memory_state}
use Rattle.jpg_huff.specs.BitOut.{CanSend}
use Rattle.test_parts.proofs.markers.written.write_all.Given as goal

abbrev pub invariant-loop-field : goal.invariant-loop-field
invariant-loop-field l = CanSend (memory_state l.desk) l.out
