use Rattle.std.specs.Prelude.{◌≡◌, length, map}
use Rattle.jpg_spec.specs.Lists.{below}
use Rattle.jpg_color.specs.EncodeHead.{table_asked}
use Rattle.jpg_color.proofs.encode.head.quants_of.Given as goal

abbrev pub invariant-loop-i : goal.invariant-loop-i
invariant-loop-i l = (l.tables.items ≡ map (table_asked l.encoding) (below l.i)) × (length l.tables.items ≡ l.i)
