use Rattle.std.specs.Prelude.{◌≡◌, drop, length}
use Rattle.jpg_spec_write.specs.Headed.{is_wide}
use Rattle.jpg_markers.proofs.writing.quants.is_wide.Given as goal

abbrev pub invariant-loop-k : goal.invariant-loop-k
invariant-loop-k l = (length l.table ≡ 64) × (is_wide l.table ≡ is_wide (drop l.k l.table))
