use Rattle.std.proofs.Common.{◌≡◌, ◌<◌, All, length}
use Rattle.jpg_spec.specs.Lists.{any_of}
use Rattle.jpg_file.specs.Read.SegmentState.{lacks_any, lacks_part, segments_view}
use Rattle.jpg_file.proofs.read.segment_state.lacks_table.Given as goal

abbrev pub invariant-loop-rest : goal.invariant-loop-rest
invariant-loop-rest l = (lacks_any (segments_view l.held) l.frame l.head ≡ any_of (lacks_part (segments_view l.held) l.frame l.head) l.rest) × All (λ p. p.component < length l.frame.components) l.rest

abbrev pub decreases-loop-rest : goal.decreases-loop-rest
decreases-loop-rest l = length l.rest
