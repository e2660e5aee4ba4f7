use Rattle.std.specs.Prelude.{◌≡◌, ◌*◌, ◌≤◌}
use Rattle.jpg_sample.specs.Means.{row_part}
use Rattle.jpg_sample.proofs.narrow.row_sum.Given as goal

abbrev pub invariant-loop-u : goal.invariant-loop-u
invariant-loop-u l = (l.sum ≡ row_part l.rows l.width l.u l.first l.v) × (l.sum ≤ 255 * l.u)
