use Rattle.std.specs.Prelude.{◌≡◌, ◌<◌, ◌^◌, take}
use Rattle.jpg_spec.specs.Bits.{bits_of}
use Rattle.jpg_prog_write.proofs.put.number_of.Given as goal

abbrev pub invariant-loop-bit : goal.invariant-loop-bit
invariant-loop-bit l = record {
  bits : bits_of l.bit-index l.number ≡ take l.bit-index l.bits;
  fits : l.number < 2 ^ l.bit-index;
}
