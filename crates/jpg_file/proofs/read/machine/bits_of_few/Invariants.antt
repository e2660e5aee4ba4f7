use Rattle.std.proofs.Common.{◌≡◌, ◌++◌, drop}
use Rattle.jpg_spec.specs.Bits.{bits_of_bytes}
use Rattle.jpg_file.proofs.read.machine.bits_of_few.Given as goal

abbrev pub invariant-loop-byte : goal.invariant-loop-byte
invariant-loop-byte l = l.store ++ bits_of_bytes (drop l.byte-index l.bytes) ≡ bits_of_bytes l.bytes
