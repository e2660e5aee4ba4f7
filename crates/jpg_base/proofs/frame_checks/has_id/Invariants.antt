use Rattle.std.specs.Prelude.{◌≡◌, drop}
use Rattle.jpg_spec.specs.Lists.{is_among}
use Rattle.jpg_spec.specs.FrameHeader.{identifiers}
use Rattle.jpg_base.proofs.frame_checks.has_id.Given as goal

abbrev pub invariant-loop-component : goal.invariant-loop-component
invariant-loop-component l = is_among l.id (identifiers l.components) ≡ is_among l.id (identifiers (drop l.component-index l.components))
