use Rattle.std.specs.Prelude.{◌≡◌, ◌≤◌, ◌^◌, ◌-◌}
use Rattle.jpg_spec.specs.FlatTable.{flat_length_from}
use Rattle.jpg_huff.proofs.flat_codes.flat_length.Given as goal

abbrev pub invariant-loop-room : goal.invariant-loop-room
invariant-loop-room l = record {
  low : 1 ≤ l.length;
  high : l.length ≤ 8;
  room : l.room ≡ 2 ^ l.length;
  same : flat_length_from 8 1 l.count ≡ flat_length_from (9 - l.length) l.length l.count;
}

abbrev pub decreases-loop-room : goal.decreases-loop-room
decreases-loop-room l = 9 - l.length
