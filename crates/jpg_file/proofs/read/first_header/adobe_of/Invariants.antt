use Rattle.std.proofs.Common.{◌≡◌, ◌++◌, List, length}
use Rattle.jpg_spec.specs.Jfif.{adobe_transform}
use Rattle.jpg_spec.specs.Markers.{Segment}
use Rattle.jpg_file.proofs.read.first_header.adobe_of.Given as goal

abbrev pub invariant-loop-marker : goal.invariant-loop-marker
invariant-loop-marker l = (before : List Segment) × (before ++ l.rest ≡ l.kept) × (l.last ≡ adobe_transform before)

abbrev pub decreases-loop-marker : goal.decreases-loop-marker
decreases-loop-marker l = length l.rest
