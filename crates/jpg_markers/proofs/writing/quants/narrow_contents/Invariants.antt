use Rattle.std.specs.Prelude.{◌≡◌, ◌+◌, ◌∷◌, take, length}
use Rattle.jpg_markers.proofs.writing.quants.narrow_contents.Given as goal

abbrev pub invariant-loop-k : goal.invariant-loop-k
invariant-loop-k l = (length l.contents ≡ 65) × (take (l.k + 1) l.contents ≡ l.slot ∷ take l.k l.table)
