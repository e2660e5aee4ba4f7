-- Bits in a store, followed by bytes.
use Rattle.std.specs.Prelude.{◌++◌, Bool, List}
use Rattle.jpg_spec.specs.Bits.{bits_of_bytes}
use Rattle.jpg_seq.specs.declared.source.Source.{Source}

abbrev pub bits_in : Source → List Bool
bits_in s = s.store ++ bits_of_bytes s.bytes.now
