use Rattle.std.specs.Prelude.{◌≡◌, length, map}
use Rattle.jpg_spec.specs.Lists.{below}
use Rattle.jpg_color.specs.EncodeHead.{component_asked}
use Rattle.jpg_color.proofs.encode.head.components_of.Given as goal

abbrev pub invariant-loop-i : goal.invariant-loop-i
invariant-loop-i l = (l.components.items ≡ map (component_asked l.encoding) (below l.i)) × (length l.components.items ≡ l.i)
