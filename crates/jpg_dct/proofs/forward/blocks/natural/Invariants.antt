use Rattle.std.specs.Prelude.{◌≡◌, take, length, map, slice_index}
use Rattle.jpg_spec.specs.Lists.{below, index_of}
use Rattle.jpg_spec.specs.Zigzag.{zigzag}
use Rattle.jpg_dct.proofs.forward.blocks.natural.Given as goal

abbrev pub invariant-loop-n : goal.invariant-loop-n
invariant-loop-n l = (length l.quants ≡ 64) × (take l.n l.quants ≡ map (λ n. slice_index l.table (index_of n zigzag)) (below l.n))
