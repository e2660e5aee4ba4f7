use Rattle.test_parts.specs.Open.{IsOpen}
use Rattle.test_parts.proofs.scans.machine.bit_by_bit.Given as goal

abbrev pub invariant-loop-i : goal.invariant-loop-i
invariant-loop-i l = IsOpen l.machine l.coefs
