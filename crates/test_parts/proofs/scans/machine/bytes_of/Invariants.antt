use Rattle.std.specs.Prelude.{◌≡◌, length}
use Rattle.test_parts.proofs.scans.machine.bytes_of.Given as goal

abbrev pub invariant-loop-k : goal.invariant-loop-k
invariant-loop-k l = length l.bytes.items ≡ l.k
