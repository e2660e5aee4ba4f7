use Rattle.std.specs.Prelude.{◌≡◌, take, length}
use Rattle.jpg_markers.proofs.quants.from_bytes.Given as goal

abbrev pub invariant-loop-k : goal.invariant-loop-k
invariant-loop-k l = (length l.table ≡ 64) × (take l.k l.table ≡ take l.k l.bytes)
