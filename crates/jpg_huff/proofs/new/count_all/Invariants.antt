use Rattle.std.specs.Prelude.{◌≡◌, ◌≤◌, ◌*◌, sum, take}
use Rattle.jpg_huff.proofs.new.count_all.Given as goal

abbrev pub invariant-loop-i : goal.invariant-loop-i
invariant-loop-i l =
    record {
      is : l.total ≡ sum (take l.i l.bits);
      low : l.total ≤ 255 * l.i;
    }
