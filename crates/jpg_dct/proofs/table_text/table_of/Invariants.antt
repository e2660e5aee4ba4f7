use Rattle.std.specs.Prelude.{◌≡◌, take, length, map, slice_index}
use Rattle.jpg_spec.specs.Zigzag.{zigzag}
use Rattle.jpg_dct.proofs.table_text.table_of.Given as goal

abbrev pub invariant-loop-k : goal.invariant-loop-k
invariant-loop-k l = (length l.values ≡ 64) × (take l.k l.values ≡ map (slice_index l.rows) (take l.k zigzag))
