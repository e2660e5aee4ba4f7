use Rattle.std.specs.Prelude.{◌≡◌, drop, max}
use Rattle.jpg_base.specs.Frame.{greatest_across, greatest_down}
use Rattle.jpg_base.proofs.frame_checks.greatest_factors.Given as goal

abbrev pub invariant-loop-component : goal.invariant-loop-component
invariant-loop-component l =
    (greatest_across l.components ≡ max l.h_max (greatest_across (drop l.component-index l.components)))
    × (greatest_down l.components ≡ max l.v_max (greatest_down (drop l.component-index l.components)))
