use Rattle.std.proofs.Common.{◌≡◌, ◌<◌, ℕ, length, slice_index_or}
use Rattle.jpg_spec.specs.Bits.{bits_of}
use Rattle.jpg_seq.specs.Values.{TellsOrNone, no_entry}
use Rattle.jpg_seq.proofs.values.fill.Given as goal

abbrev pub invariant-loop-ten : goal.invariant-loop-ten
invariant-loop-ten l = (length l.entries ≡ 1024) × ((n : ℕ) → n < l.ten → TellsOrNone l.decoder (bits_of 10 n) (slice_index_or l.entries n no_entry))
