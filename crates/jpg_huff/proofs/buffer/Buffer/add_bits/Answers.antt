use Rattle.std.proofs.Common.{◌-◌, ◌/◌, ◌%◌, ◌^◌, ◌<◌, ◌++◌, sym, ap, ◌∙◌, arith, length}
use Rattle.std.proofs.lemmas.List.{append_assoc, append-nil, length-append}
use Rattle.jpg_spec.specs.Bits.{bits_of, stuffed, stuffed_byte, whole_bytes}
use Rattle.jpg_spec.proofs.Basics.Strings.{length-bits_of}
use Rattle.jpg_huff.proofs.Packed.{whole_bytes-few}
use Rattle.jpg_huff.proofs.Putting.{whole_step}
use Rattle.jpg_huff.proofs.Buffers.{length-stuffed_byte}
use Rattle.jpg_huff.proofs.buffer.Buffer.add_bits.Goals as goal

pub loop-left-preserved : goal.loop-left-preserved
loop-left-preserved c =
    let i = c.loop-left.invariant in
    let byte = c.args.word / 2 ^ (c.loop-left.left - 8) % 256 in
    let rest = stuffed (whole_bytes (bits_of (c.loop-left.left - 8) c.args.word)) in
    let long = ap length c.add_stuffed.ensures ∙ length-append c.loop-left.self (stuffed_byte byte) in
    record {
      so_far = ap (λ x. x ++ rest) c.add_stuffed.ensures ∙ append_assoc c.loop-left.self (stuffed_byte byte) rest ∙ ap (λ x. c.loop-left.self ++ x) (sym (whole_step c.loop-left.left c.args.word c.loop-left-test.true)) ∙ i.so_far;
      room = omega (arith, long, length-stuffed_byte byte, i.room, c.loop-left-test.true);
      few = omega arith;
    }

pub returns : goal.returns
returns c =
    let i = c.loop-left.invariant in
    let few : length (bits_of c.loop-left.left c.args.word) < 8 = omega (arith, length-bits_of c.loop-left.left c.args.word) in
    sym (append-nil c.loop-left.self) ∙ ap (λ w. c.loop-left.self ++ stuffed w) (sym (whole_bytes-few (bits_of c.loop-left.left c.args.word) few)) ∙ i.so_far
