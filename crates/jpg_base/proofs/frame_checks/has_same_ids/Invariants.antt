use Rattle.std.specs.Prelude.{◌≡◌, drop}
use Rattle.jpg_spec.specs.Lists.{is_distinct}
use Rattle.jpg_spec.specs.FrameHeader.{identifiers}
use Rattle.jpg_base.proofs.frame_checks.has_same_ids.Given as goal

abbrev pub invariant-loop-i : goal.invariant-loop-i
invariant-loop-i l = is_distinct (identifiers l.components) ≡ is_distinct (identifiers (drop l.i l.components))
