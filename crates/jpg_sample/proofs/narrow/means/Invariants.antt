use Rattle.std.specs.Prelude.{◌≡◌, take, length, map}
use Rattle.jpg_spec.specs.Lists.{below}
use Rattle.jpg_spec_image.specs.Downsampling.{edge_repeated, in_rows, downsampled}
use Rattle.jpg_sample.proofs.narrow.means.Given as goal

abbrev pub invariant-loop-x : goal.invariant-loop-x
invariant-loop-x l =
    (length l.out ≡ length l.fn.out) × (take l.x l.out ≡ map (λ k. downsampled l.across l.down (edge_repeated l.width l.down (in_rows l.width l.rows)) k 0) (below l.x))
