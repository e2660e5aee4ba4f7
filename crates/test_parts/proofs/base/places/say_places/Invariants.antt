use Rattle.std.specs.Prelude.{◌≡◌, drop}
use Rattle.jpg_spec.specs.Geometry.{units}
use Rattle.jpg_spec.specs.Segments.{head_components}
use Rattle.test_parts.proofs.base.places.say_places.Given as goal

abbrev pub invariant-loop-unit : goal.invariant-loop-unit
invariant-loop-unit l = l.cursor ≡ drop l.unit (units l.frame (head_components l.head))
