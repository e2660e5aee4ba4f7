use Rattle.std.specs.Prelude.{◌≡◌, length}
use Rattle.test_parts.proofs.scans.machine.one_store.Given as goal

abbrev pub invariant-loop-bit : goal.invariant-loop-bit
invariant-loop-bit l = length l.store ≡ l.bit-index
