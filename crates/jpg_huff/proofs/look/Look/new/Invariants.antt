use Rattle.std.specs.Prelude.{◌≡◌, ◌<◌, ℕ, length, slice_index}
use Rattle.jpg_spec.specs.Bits.{bits_of}
use Rattle.jpg_huff.specs.Look.{LooksUp, found_of}
use Rattle.jpg_huff.specs.Tables.{symbol_codes}
use Rattle.jpg_huff.proofs.look.Look.new.Given as goal

abbrev pub invariant-loop-byte : goal.invariant-loop-byte
invariant-loop-byte l = (length l.entries ≡ 256) × ((n : ℕ) → n < l.byte → LooksUp (symbol_codes l.table) (bits_of 8 n) (found_of (slice_index l.entries n)))
