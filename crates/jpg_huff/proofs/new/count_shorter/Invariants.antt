use Rattle.std.specs.Prelude.{◌≡◌, ℕ, ◌<◌, ◌≤◌, ◌*◌, length, sum, take, slice_index}
use Rattle.jpg_huff.proofs.new.count_shorter.Given as goal

abbrev pub invariant-loop-i : goal.invariant-loop-i
invariant-loop-i l =
    record {
      size : length l.starts ≡ 16;
      is : l.start ≡ sum (take l.i l.bits);
      low : l.start ≤ 255 * l.i;
      done : (k : ℕ) → k < l.i → slice_index l.starts k ≡ sum (take k l.bits);
    }
