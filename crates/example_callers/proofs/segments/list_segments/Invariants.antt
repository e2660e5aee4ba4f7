use Rattle.std.specs.Prelude.{◌≡◌, ◌+◌, ◌<◌, ◌^◌, length, None}
use Rattle.jpg_spec.specs.Segments.{standard_limits}
use Rattle.jpg_markers.specs.Reading.{reading_of}
use Rattle.example_callers.proofs.segments.list_segments.Given as goal

abbrev pub invariant-loop-rest : goal.invariant-loop-rest
invariant-loop-rest l =
    ((reading_of l.reader).limits ≡ standard_limits) × ((reading_of l.reader).stop ≡ None)
    × ((reading_of l.reader).taken + length l.rest ≡ length l.file) × (length l.file < 2 ^ 40)

abbrev pub decreases-loop-rest : goal.decreases-loop-rest
decreases-loop-rest l = length l.rest
