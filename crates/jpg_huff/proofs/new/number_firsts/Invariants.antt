use Rattle.std.specs.Prelude.{◌≡◌, ℕ, ◌<◌, ◌≤◌, ◌+◌, ◌^◌, length, drop, slice_index}
use Rattle.jpg_spec.specs.Codes.{are_codes}
use Rattle.jpg_huff.specs.New.{first_number}
use Rattle.jpg_huff.proofs.new.number_firsts.Given as goal

abbrev pub invariant-loop-i : goal.invariant-loop-i
invariant-loop-i l =
    record {
      size : length l.firsts ≡ 16;
      is : l.first ≡ first_number l.bits l.i;
      power : l.room ≡ 2 ^ (l.i + 1);
      low : l.first + 2 ≤ l.room;
      done : (k : ℕ) → k < l.i → slice_index l.firsts k ≡ first_number l.bits k;
      fits : (k : ℕ) → k < l.i → first_number l.bits k + slice_index l.bits k < 2 ^ (k + 1);
      same : are_codes 1 0 l.bits ≡ are_codes (l.i + 1) l.first (drop l.i l.bits);
    }
