use Rattle.std.proofs.Common.{◌≡◌}
use Rattle.jpg_spec.specs.Lists.{below, any_of}
use Rattle.jpg_spec_image.specs.Upsampling.{has_far_rows}
use Rattle.jpg_color.specs.StripsState.{part_at}
use Rattle.jpg_color.proofs.decode.strips.is_any_waiting.Given as goal

abbrev pub invariant-loop-i : goal.invariant-loop-i
invariant-loop-i l = l.any ≡ any_of (λ k. has_far_rows (part_at l.parts k).stretch) (below l.i)
