use Rattle.std.proofs.Common.{◌≡◌, map, take, length}
use Rattle.jpg_spec.specs.Transposed.{transposed}
use Rattle.jpg_transform.proofs.planning.turned.Given as goal

abbrev pub invariant-loop-table : goal.invariant-loop-table
invariant-loop-table l = (l.list.items ≡ map (transposed 0) (take l.table-index l.tables)) × (length l.list.items ≡ l.table-index)
