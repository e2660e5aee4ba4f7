use Rattle.std.specs.Prelude.{◌≡◌, length, take}
use Rattle.jpg_transform.proofs.frames.components_of.Given as goal

abbrev pub invariant-loop-i : goal.invariant-loop-i
invariant-loop-i l = (l.components.items ≡ take l.i l.frame.components) × (length l.components.items ≡ l.i)
