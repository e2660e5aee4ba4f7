use Rattle.std.specs.Prelude.{◌≡◌, length, map, take}
use Rattle.jpg_spec_move.specs.Moved.{exchanged_factors}
use Rattle.jpg_transform.proofs.frames.exchanged.Given as goal

abbrev pub invariant-loop-i : goal.invariant-loop-i
invariant-loop-i l = (l.components.items ≡ map exchanged_factors (take l.i l.frame.components)) × (length l.components.items ≡ l.i)
