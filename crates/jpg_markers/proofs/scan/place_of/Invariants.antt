use Rattle.std.specs.Prelude.{◌≡◌, ◌+◌, drop}
use Rattle.jpg_spec.specs.Lists.{index_of}
use Rattle.jpg_spec.specs.FrameHeader.{identifiers}
use Rattle.jpg_markers.proofs.scan.place_of.Given as goal

abbrev pub invariant-loop-i : goal.invariant-loop-i
invariant-loop-i l = index_of l.id (identifiers l.frame.components) ≡ l.i + index_of l.id (identifiers (drop l.i l.frame.components))
