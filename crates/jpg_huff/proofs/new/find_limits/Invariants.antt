use Rattle.std.specs.Prelude.{◌≡◌, ℕ, ◌<◌, ◌≤◌, length, drop, slice_index}
use Rattle.jpg_huff.specs.Index.{limit_from}
use Rattle.jpg_huff.specs.New.{first_number}
use Rattle.jpg_huff.proofs.new.find_limits.Given as goal

abbrev pub invariant-loop-left : goal.invariant-loop-left
invariant-loop-left l =
    record {
      size : length l.limits ≡ 16;
      inside : l.left ≤ 16;
      low : l.limit ≤ 131072;
      is : l.limit ≡ limit_from (first_number l.bits l.left) (drop l.left l.bits);
      done : (k : ℕ) → l.left ≤ k → k < 16 → slice_index l.limits k ≡ limit_from (first_number l.bits k) (drop k l.bits);
    }

abbrev pub decreases-loop-left : goal.decreases-loop-left
decreases-loop-left l = l.left
