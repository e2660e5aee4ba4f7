use Rattle.std.proofs.Common.{◌≡◌, ◌++◌, ◌≤◌, drop, length}
use Rattle.jpg_spec.specs.Bits.{bits_of_bytes}
use Rattle.jpg_seq.specs.Source.{bits_in}
use Rattle.jpg_seq.proofs.source.Source.take_all.Given as goal

abbrev pub invariant-loop-byte : goal.invariant-loop-byte
invariant-loop-byte l = (l.self.store ++ bits_of_bytes (drop l.byte-index l.byte-items) ≡ bits_in l.fn.self) × (length (bits_in l.fn.self) ≤ 64)
