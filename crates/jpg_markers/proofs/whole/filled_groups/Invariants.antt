use Rattle.std.specs.Prelude.{◌≡◌, ◌≤◌, length, replicate, take, drop}
use Rattle.jpg_markers.proofs.whole.filled_groups.Given as goal

abbrev pub invariant-loop-group : goal.invariant-loop-group
invariant-loop-group l = (l.n ≤ length l.bytes) × (l.rest ≡ drop l.n l.bytes) × (take l.n l.bytes ≡ replicate l.n 255)

abbrev pub decreases-loop-group : goal.decreases-loop-group
decreases-loop-group l = length l.rest
