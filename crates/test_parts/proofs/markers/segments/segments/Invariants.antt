use Rattle.std.specs.Prelude.{◌≡◌}
use Rattle.jpg_markers.specs.Reading.{reading_of}
use Rattle.test_parts.proofs.markers.segments.segments.Given as goal

abbrev pub invariant-loop-field : goal.invariant-loop-field
invariant-loop-field l = (reading_of l.reader).limits ≡ l.limits
