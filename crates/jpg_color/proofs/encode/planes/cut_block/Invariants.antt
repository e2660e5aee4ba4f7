use Rattle.std.specs.Prelude.{◌≡◌, ◌*◌, take, length, flat_map}
use Rattle.jpg_spec.specs.Lists.{below}
use Rattle.jpg_color.proofs.CutBlocks.{block_row}
use Rattle.jpg_color.proofs.encode.planes.cut_block.Given as goal

abbrev pub invariant-loop-v : goal.invariant-loop-v
invariant-loop-v l = (length l.samples ≡ 64) × (take (8 * l.v) l.samples ≡ flat_map (block_row l.rows l.wide l.x) (below l.v))
