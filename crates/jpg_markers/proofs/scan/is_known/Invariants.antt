use Rattle.std.specs.Prelude.{◌≡◌, drop}
use Rattle.jpg_spec.specs.Lists.{is_among}
use Rattle.jpg_spec.specs.FrameHeader.{identifiers}
use Rattle.jpg_markers.proofs.scan.is_known.Given as goal

abbrev pub invariant-loop-i : goal.invariant-loop-i
invariant-loop-i l = is_among l.id (identifiers l.frame.components) ≡ is_among l.id (identifiers (drop l.i l.frame.components))
