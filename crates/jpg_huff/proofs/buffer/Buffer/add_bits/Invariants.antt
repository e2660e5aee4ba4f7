use Rattle.std.proofs.Common.{◌≡◌, ◌≤◌, ◌+◌, ◌*◌, ◌/◌, ◌++◌, length}
use Rattle.jpg_spec.specs.Bits.{bits_of, stuffed, whole_bytes}
use Rattle.jpg_huff.proofs.buffer.Buffer.add_bits.Given as goal

abbrev pub invariant-loop-left : goal.invariant-loop-left
invariant-loop-left l =
    record {
      so_far : l.self ++ stuffed (whole_bytes (bits_of l.left l.word)) ≡ l.fn.self ++ stuffed (whole_bytes (bits_of l.count l.word));
      room : length l.self + 2 * (l.left / 8) ≤ 4096;
      few : l.left ≤ 64;
    }

abbrev pub decreases-loop-left : goal.decreases-loop-left
decreases-loop-left l = l.left
