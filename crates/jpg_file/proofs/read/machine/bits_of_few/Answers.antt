use Rattle.std.proofs.Common.{arith}
use Rattle.jpg_spec.specs.Bits.{bits_of_bytes}
use Rattle.jpg_seq.proofs.Takings.{byte_fits}
use Rattle.jpg_spec_write.proofs.ProgressiveLength.{bytes_long}
use Rattle.jpg_file.proofs.read.machine.bits_of_few.Goals as goal

pub push-requires : goal.push-requires
push-requires c =
    let bytes = c.args.bytes.now in
    omega (arith, c.requires, bytes_long bytes, byte_fits c.loop-byte.store (bits_of_bytes bytes) _ c.loop-byte.byte-index (omega (arith, c.loop-byte-test.true, c.loop-byte.auto.byte-index-end)) c.loop-byte.invariant)
