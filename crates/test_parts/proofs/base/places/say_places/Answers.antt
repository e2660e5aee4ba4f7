use Rattle.std.proofs.Common.{◌∙◌, ap, drop}
use Rattle.std.proofs.lemmas.List.{drop-drop}
use Rattle.jpg_spec.specs.Geometry.{units}
use Rattle.jpg_spec.specs.Segments.{head_components}
use Rattle.test_parts.proofs.base.places.say_places.Goals as goal

pub loop-unit-preserved : goal.loop-unit-preserved
loop-unit-preserved c =
    c.step.ensures ∙ ap (λ xs. drop 1 xs) c.loop-unit.invariant ∙ drop-drop 1 c.loop-unit.unit (units c.args.frame.now (head_components c.args.head.now))
