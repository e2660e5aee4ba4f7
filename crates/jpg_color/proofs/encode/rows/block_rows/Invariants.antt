use Rattle.std.specs.Prelude.{◌≡◌, ℕ, ◌+◌, ◌*◌, ◌<◌, length, slice_index}
use Rattle.jpg_color.specs.PlaneRows.{lower_row}
use Rattle.jpg_color.proofs.encode.rows.block_rows.Given as goal

abbrev pub invariant-loop-v : goal.invariant-loop-v
invariant-loop-v l =
    (length l.out ≡ length l.fn.out)
    × ((k u : ℕ) → k < l.v → u < l.source.wide → slice_index l.out (k * l.source.wide + u) ≡ lower_row l.source.plane l.source.made u (8 * l.y + k))
