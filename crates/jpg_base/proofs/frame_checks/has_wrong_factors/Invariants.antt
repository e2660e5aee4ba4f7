use Rattle.std.specs.Prelude.{◌≡◌, drop}
use Rattle.jpg_spec.specs.Lists.{any_of}
use Rattle.jpg_spec.specs.FrameHeader.{has_bad_factor}
use Rattle.jpg_base.proofs.frame_checks.has_wrong_factors.Given as goal

abbrev pub invariant-loop-component : goal.invariant-loop-component
invariant-loop-component l = any_of has_bad_factor l.components ≡ any_of has_bad_factor (drop l.component-index l.components)
