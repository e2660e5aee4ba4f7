use Rattle.std.specs.Prelude.{◌≡◌, ◌*◌, ◌≤◌}
use Rattle.jpg_sample.specs.Means.{block_part}
use Rattle.jpg_sample.proofs.narrow.block_sum.Given as goal

abbrev pub invariant-loop-v : goal.invariant-loop-v
invariant-loop-v l = (l.sum ≡ block_part l.rows l.width l.across l.v l.first) × (l.sum ≤ 255 * l.across * l.v)
