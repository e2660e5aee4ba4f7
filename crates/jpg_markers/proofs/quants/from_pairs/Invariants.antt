use Rattle.std.specs.Prelude.{◌≡◌, ◌*◌, ◌++◌, take, drop, length}
use Rattle.jpg_spec.specs.QuantContents.{parsed_pairs}
use Rattle.jpg_markers.proofs.quants.from_pairs.Given as goal

abbrev pub invariant-loop-k : goal.invariant-loop-k
invariant-loop-k l = (length l.table ≡ 64) × (take l.k l.table ++ parsed_pairs (drop (2 * l.k) l.bytes) ≡ parsed_pairs l.bytes)
