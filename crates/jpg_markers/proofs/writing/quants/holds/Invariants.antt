use Rattle.std.specs.Prelude.{◌≡◌, drop}
use Rattle.jpg_spec.specs.Lists.{any_of, are_equal}
use Rattle.jpg_markers.proofs.writing.quants.holds.Given as goal

abbrev pub invariant-loop-other : goal.invariant-loop-other
invariant-loop-other l = any_of (are_equal l.table) l.tables ≡ any_of (are_equal l.table) (drop l.other-index l.tables)
