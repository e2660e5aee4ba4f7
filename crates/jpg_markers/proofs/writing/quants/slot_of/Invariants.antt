use Rattle.std.specs.Prelude.{◌≡◌, ◌+◌, drop}
use Rattle.jpg_spec_write.specs.FileText.{slot_in}
use Rattle.jpg_markers.proofs.writing.quants.slot_of.Given as goal

abbrev pub invariant-loop-i : goal.invariant-loop-i
invariant-loop-i l = slot_in l.tables l.table ≡ l.i + slot_in (drop l.i l.tables) l.table
