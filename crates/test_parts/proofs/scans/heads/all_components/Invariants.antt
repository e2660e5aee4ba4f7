use Rattle.std.specs.Prelude.{◌≡◌, length, map}
use Rattle.jpg_spec.specs.Lists.{below}
use Rattle.test_parts.specs.Heads.{part_for}
use Rattle.test_parts.proofs.scans.heads.all_components.Given as goal

abbrev pub invariant-loop-i : goal.invariant-loop-i
invariant-loop-i l = (l.parts.items ≡ map part_for (below l.i)) × (length l.parts.items ≡ l.i)
