use Rattle.std.specs.Prelude.{◌≡◌, drop}
use Rattle.jpg_markers.specs.Kept.{AreSegments, segments_of}
use Rattle.jpg_markers.proofs.kept.KeptList.start_of.Given as goal

abbrev pub invariant-loop : goal.invariant-loop
invariant-loop l = AreSegments l.rest × (segments_of l.rest ≡ drop l.counter l.self)
