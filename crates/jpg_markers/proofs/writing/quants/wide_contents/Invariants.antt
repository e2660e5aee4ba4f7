use Rattle.std.specs.Prelude.{◌≡◌, ◌+◌, ◌*◌, ◌∷◌, take, length, flat_map}
use Rattle.std.specs.Int.{to_be_bytes, w16}
use Rattle.jpg_markers.proofs.writing.quants.wide_contents.Given as goal

abbrev pub invariant-loop-k : goal.invariant-loop-k
invariant-loop-k l = (l.contents.items ≡ (16 + l.slot) ∷ flat_map (to_be_bytes w16) (take l.k l.table)) × (length l.contents.items ≡ 2 * l.k + 1)
