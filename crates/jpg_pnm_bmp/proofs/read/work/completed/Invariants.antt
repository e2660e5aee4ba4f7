use Rattle.std.specs.Prelude.{◌≡◌, [], ◌∷◌, length, take, drop}
use Rattle.jpg_pnm_bmp.proofs.read.work.completed.Given as goal

abbrev pub invariant-loop-k : goal.invariant-loop-k
invariant-loop-k l = (length l.head ≡ 54) × (take l.k l.head ≡ take l.k l.held) × (drop 53 l.head ≡ l.byte ∷ [])
