use Rattle.std.specs.Prelude.{◌≡◌}
use Rattle.jpg_spec.specs.Segments.{standard_limits}
use Rattle.jpg_markers.specs.Reading.{reading_of}
use Rattle.test_parts.proofs.markers.segments.marker_after.Given as goal

abbrev pub invariant-loop-byte : goal.invariant-loop-byte
invariant-loop-byte l = (reading_of l.reader).limits ≡ standard_limits
